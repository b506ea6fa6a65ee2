-- The version of the calls that C and Rust link.
use Rattle.std.specs.Prelude.{ℕ, ◌+◌, ◌*◌}

-- 1.5.0, as major << 16 | minor << 8 | patch
abbrev pub version : ℕ
version = 65536 * 1 + 256 * 5 + 0
