-- What refuses a call, in document 01's order: 6, 4, 1, 3, 2 for an event; 6, 4, 5 for a step back.
use Rattle.std.specs.Prelude.{ℕ, Bool, false, not, cond, ◌||◌, List, length, eqb, ltb}
use Rattle.commands.specs.Channels.{is_master}
use Rattle.chip.specs.Event.{Completion, spi, i2c, Event, frame, completion, sample, upset}
use Rattle.state.specs.Bytes.{is_state}
use Rattle.journal.specs.Layout.{well_formed, kept_of, past}
use Rattle.journal.specs.Record.{sound}
use Rattle.adapter.specs.Answers.{Verdict, Refused, Passed}
use Rattle.numbers.specs.Numbers.{short_output, bad_body, bad_argument, bad_journal, none_kept, bad_state, body_least, body_most, output_least, transfer_bytes, i2c_most}

-- completion not 16 bytes; a channel number that isn't I2C, or over 16 bytes
abbrev pub wrong_completion : Completion → Bool
wrong_completion (spi received) = not (eqb (length received) transfer_bytes)
wrong_completion (i2c channel acknowledge lineLow received) = not (is_master channel) || ltb i2c_most (length received)

-- port not 0 or 1, edge kind over 2, or a wrong completion
abbrev pub wrong_argument : Event → Bool
wrong_argument (frame port body) = ltb 1 port
wrong_argument (completion c) = wrong_completion c
wrong_argument (sample levels kind) = ltb 2 kind
wrong_argument upset = false

-- body not 2 to 16 bytes
abbrev pub wrong_body : Event → Bool
wrong_body (frame port body) = ltb (length body) body_least || ltb body_most (length body)
wrong_body (completion c) = false
wrong_body (sample levels kind) = false
wrong_body upset = false

-- the first that applies
unfoldable pub in_order : Bool → Bool → Bool → Bool → Bool → Verdict
in_order state journal output argument body =
    cond state (Refused bad_state)
    (cond journal (Refused bad_journal)
    (cond output (Refused short_output)
    (cond argument (Refused bad_argument)
    (cond body (Refused bad_body) Passed))))

-- of an event that is handed a state, a journal and an output
unfoldable pub verdict : List ℕ → List ℕ → Event → List ℕ → Verdict
verdict s journal e output =
    in_order (not (is_state s)) (not (well_formed journal)) (ltb (length output) output_least) (wrong_argument e) (wrong_body e)

-- Of a step back that is handed a state and a journal. A damaged record is a wrong journal; there is no record where the kept number is 0.
unfoldable pub back_verdict : List ℕ → List ℕ → Verdict
back_verdict s journal =
    cond (not (is_state s)) (Refused bad_state)
    (cond (not (well_formed journal)) (Refused bad_journal)
    (cond (eqb (kept_of journal) 0) (Refused none_kept)
    (cond (not (sound s (past journal 0))) (Refused bad_journal) Passed)))
