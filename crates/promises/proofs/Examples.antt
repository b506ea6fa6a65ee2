-- THE TABLE of document 01, computed from the definitions; the lines of the delivered calls by the text's (`demand3`).
use Prim.Native.Nat.{ℕ, zero, suc, ◌<◌, ◌^◌}
use mathlib.Core.Path.{◌≡◌, refl, ap, ◌∙◌}
use mathlib.Core.List.{List, [], ◌∷◌}
use mathlib.Core.Bool.{Bool, true, ◌&&◌}
use lib.ListN.{get_or, replicate, length-replicate}
use lib.Dec.{ltb, lit<, lit≤}
use borrow.Author.Tests.{ltb-true}
use Rattle.bits.specs.Bits.{word}
use Rattle.commands.specs.Channels.{channel_of}
use Rattle.commands.specs.Command.{code_of}
use Rattle.registers.specs.Registers.{bank, read, store, zeroed}
use Rattle.registers.specs.Pins.{interrupts, sampled, datain_after, firing_lines}
use Rattle.channels.specs.Rows.{master_control, master_bit, held, held_all}
use Rattle.channels.specs.Errors.{decoded}
use Rattle.channels.specs.Perform.{marked, replied, performed}
use Rattle.parts.specs.Parts.{part, put}
use Rattle.parts.specs.Digits.{number, digits}
use Rattle.wire.specs.Bits.{low, wire}
use Rattle.wire.specs.Frame.{stuff}
use Rattle.chip.specs.Event.{spi, i2c, frame, completion, sample, upset}
use Rattle.state.specs.State.{powered_on}
use Rattle.chip.specs.Request.{replies, requested}
use Rattle.chip.specs.Frame.{is_reset_frame, commanded, numbered, carried, addressed, on_frame}
use Rattle.chip.specs.Chip.{reaction, on_sample, on_upset}
use Rattle.listing.specs.Characters.{is_hex, hex_value, all_hex, are_pairs, pair_bytes, hex_digit, hex_text}
use Rattle.listing.specs.Line as Line
use Rattle.listing.specs.Answer.{decimal, frame_text, answer_text}
use Rattle.player.specs.Play as Listing
use Rattle.player.specs.Play.{lines_from}
use Rattle.batch.specs.declared.Sample.{Sample}
use Rattle.promises.specs.Runs.{Call, event, batch, back, empty, enlarge, SamplesOfTypes, AllOfTheirTypes, at_start}
use Rattle.promises.specs.Ours.{ours}
use Rattle.promises.specs.Text.{text}
use Rattle.promises.specs.Table.{listing, listing_output, input_text, output_text, request, Give, everything, everything_output, Table}
use Rattle.bits.proofs.Tests.{both, and_left, and_right}
use Rattle.promises.proofs.Runs.{demand3}
use Rattle.promises.proofs.Formats.{slots_200, any_52224}
use Rattle.promises.proofs.Lines.{text_lines, lines_told}
use Rattle.promises.proofs.Text.{of_line, joined, Says, none, happens, steps, answers_text}

-- literal bytes are bytes
unfoldable pub below : List ℕ → Bool
below [] = true
below (x ∷ xs) = ltb x 256 && below xs

bytes : (l : List ℕ) → below l ≡ true → (i : ℕ) → get_or l i 0 < 256
unfolding below
bytes [] h i = lit< tt
bytes (x ∷ xs) h zero = ltb-true x 256 (and_left (ltb x 256) (below xs) h)
bytes (x ∷ xs) h (suc i) = bytes xs (and_right (ltb x 256) (below xs) h) i

unfoldable pub words : List Sample → Bool
words [] = true
words (x ∷ list) = ltb x.levels (2 ^ 32) && words list

pub typed_samples : (list : List Sample) → words list ≡ true → SamplesOfTypes list
unfolding words
typed_samples [] h = tt
typed_samples (x ∷ list) h =
    let b = both (ltb x.levels (2 ^ 32)) (words list) h in (ltb-true x.levels (2 ^ 32) b.0, typed_samples list b.1)

unfoldable pub literal : List Call → Bool
literal [] = true
literal (event (frame port body) o ∷ ks) = below body && literal ks
literal (event (completion (spi received)) o ∷ ks) = below received && literal ks
literal (event (completion (i2c channel acknowledge lineLow received)) o ∷ ks) = below received && literal ks
literal (event (sample levels kind) o ∷ ks) = ltb levels (2 ^ 32) && literal ks
literal (event upset o ∷ ks) = literal ks
literal (batch list o ∷ ks) = words list && literal ks
literal (back ∷ ks) = literal ks
literal (empty ∷ ks) = literal ks
literal (enlarge second ∷ ks) = literal ks

pub typed : (ks : List Call) → literal ks ≡ true → AllOfTheirTypes ks
unfolding literal
typed [] h = tt
typed (event (frame port body) o ∷ ks) h = let b = both (below body) (literal ks) h in (bytes body b.0, typed ks b.1)
typed (event (completion (spi received)) o ∷ ks) h = let b = both (below received) (literal ks) h in (bytes received b.0, typed ks b.1)
typed (event (completion (i2c channel acknowledge lineLow received)) o ∷ ks) h = let b = both (below received) (literal ks) h in (bytes received b.0, typed ks b.1)
typed (event (sample levels kind) o ∷ ks) h = let b = both (ltb levels (2 ^ 32)) (literal ks) h in (ltb-true levels (2 ^ 32) b.0, typed ks b.1)
typed (event upset o ∷ ks) h = (tt, typed ks h)
typed (batch list o ∷ ks) h = let b = both (words list) (literal ks) h in (typed_samples list b.0, typed ks b.1)
typed (back ∷ ks) h = (tt, typed ks h)
typed (empty ∷ ks) h = (tt, typed ks h)
typed (enlarge second ∷ ks) h = (tt, typed ks h)

listing_text : text_lines 0x00000A (at_start 200) listing ≡ listing_output
unfolding
    reaction on_frame addressed commanded carried numbered requested replied performed decoded replies powered_on is_reset_frame put channel_of code_of
    read store zeroed held held_all part number digits bank master_control master_bit marked
listing_text = refl

everything_text : text_lines 0x00000A (at_start 200) everything ≡ everything_output
unfolding
    reaction on_frame addressed commanded carried numbered requested replied performed decoded replies on_sample on_upset powered_on is_reset_frame put
    channel_of code_of read store zeroed held held_all interrupts sampled datain_after firing_lines word part number digits bank master_control master_bit marked
everything_text = refl

-- the file's lines say the calls
listing_says : Says (lines_from [] (text input_text)) listing
unfolding
    text lines_from Line.read Line.form_of Line.is_frame Line.is_completion Line.is_sample Line.is_i2c Line.is_letter
    are_pairs all_hex is_hex pair_bytes hex_value
listing_says =
    happens refl (happens refl (happens refl (happens refl (happens refl (steps refl (steps refl (happens refl none)))))))

-- and the lines are the file's
listing_joined : joined listing_output ≡ text output_text
unfolding joined of_line answer_text decimal frame_text hex_text hex_digit text
listing_joined = refl

-- the answers due to calls are the lines that the delivered calls give
give : (calls : List Call) (output : List (List ℕ)) → literal calls ≡ true → text_lines 0x00000A (at_start 200) calls ≡ output → Give calls output
give calls output t e b size =
    lines_told ours demand3 0x00000A (lit≤ tt) b (any_52224 b size) calls (typed calls t)
    ∙ ap (λ (most : ℕ). text_lines 0x00000A (at_start most) calls) (slots_200 b size) ∙ e

eight_text : Listing.played (text input_text) ≡ text output_text
unfolding Listing.played literal below
eight_text =
    answers_text listing_says _ _
    ∙ ap joined (give listing listing_output refl listing_text (replicate 52224 0) (length-replicate {A = ℕ} 52224 0))
    ∙ listing_joined

-- THE TABLE HOLDS.
pub table : Table
unfolding
    reaction on_frame addressed commanded carried numbered requested replied performed decoded replies powered_on is_reset_frame put channel_of code_of
    read store zeroed held held_all part number digits stuff wire low literal below
table =
    record {
      eight_lines = give listing listing_output refl listing_text;
      eight_lines_as_text = eight_text;
      ff_stuffs = refl;
      7e_stuffs = refl;
      trn_01 = give (request 0x01 0x00 2 0x03) _ refl refl;
      trn_fe = give (request 0xFE 0x00 2 0x03) _ refl refl;
      trn_00 = give (request 0x00 0x00 2 0x03) _ refl refl;
      trn_ff = give (request 0xFF 0x00 2 0x03) _ refl refl;
      ch_15 = give (request 0x01 0x15 1 0x11) _ refl refl;
      ch_16 = give (request 0x01 0x16 1 0x11) _ refl refl;
    }

-- A RUN OF EVERYTHING: refusals, a step back, an emptying and a RESET, with the answers due.
pub every_sentence : Give everything everything_output
unfolding literal below
every_sentence = give everything everything_output refl everything_text
