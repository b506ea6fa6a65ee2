-- A request's information, and the body of a request and of a reply, byte by byte.
use Rattle.std.specs.Prelude.{ℕ, ◌*◌, ◌/◌, ◌%◌, ◌^◌, List, [], ◌∷◌, get_or}
use Rattle.commands.specs.declared.request.Request.{Request}
use Rattle.parts.specs.Digits.{word}

-- the chip's address
abbrev pub address : ℕ
address = 0x00

-- TRN, CH, LEN, CMD, D[23:16], D[31:24], D[7:0], D[15:8]
abbrev pub request_of : List ℕ → Request
request_of info =
    record {
      trn = get_or info 0 0;
      ch = get_or info 1 0;
      len = get_or info 2 0;
      cmd = get_or info 3 0;
      value = word (get_or info 6 0) (get_or info 7 0) (get_or info 4 0) (get_or info 5 0);
    }

-- D of a reply's or an interrupt's body, whose last four bytes are D[23:16], D[31:24], D[7:0], D[15:8]
abbrev pub data_of : List ℕ → ℕ
data_of body = word (get_or body 8 0) (get_or body 9 0) (get_or body 6 0) (get_or body 7 0)

-- byte k of D: D[7:0], D[15:8], D[23:16], D[31:24]
abbrev pub byte_of : ℕ → ℕ → ℕ
byte_of d k = d / 2 ^ (8 * k) % 256

-- A reply's or an interrupt's body: address, control, TRN, CH, ERR, LEN, D[23:16], D[31:24], D[7:0], D[15:8].
abbrev pub reply_body : ℕ → ℕ → ℕ → ℕ → ℕ → ℕ → List ℕ
reply_body control trn ch err len d =
    address ∷ control ∷ trn ∷ ch ∷ err ∷ len ∷ byte_of d 2 ∷ byte_of d 3 ∷ byte_of d 0 ∷ byte_of d 1 ∷ []

-- A request's body: address, control, TRN, CH, LEN, CMD, then D in the same order.
abbrev pub request_body : ℕ → ℕ → ℕ → ℕ → ℕ → ℕ → List ℕ
request_body control trn ch len cmd d =
    address ∷ control ∷ trn ∷ ch ∷ len ∷ cmd ∷ byte_of d 2 ∷ byte_of d 3 ∷ byte_of d 0 ∷ byte_of d 1 ∷ []
