-- What is done of a frame or at the end of a start, as code comes to it. `search` finds the premises in what a need knows, wherever they stand.
use Rattle.std.proofs.Common.{◌≡◌, ℕ, ◌-◌, Bool, true, eqb, List, length, get_or, drop, ◌∙◌, arith, length-drop, eq-eqb}
use Rattle.std.specs.Prelude.{Option}
use Rattle.std.specs.Int.{to_le_bytes, w32}
use Rattle.commands.specs.declared.channel.Channel.TheVariants.{Master}
use Rattle.commands.specs.declared.command.Command.{Command}
use Rattle.commands.specs.declared.command.Register.TheVariants.{ChipId}
use Rattle.commands.specs.declared.command.Transaction.{Transaction}
use Rattle.commands.specs.declared.request.Reply.{Reply}
use Rattle.commands.specs.Channels.{command_of}
use Rattle.commands.specs.Request.{granted}
use Rattle.commands.specs.Field.{Open, master}
use Rattle.registers.specs.Registers.{read}
use Rattle.registers.specs.Transaction.{ended, end_data}
use Rattle.link.specs.Link.{fresh_link}
use Rattle.link.specs.declared.Link.{Link}
use Rattle.state.specs.State.{adapter, blank, powered_on}
use Rattle.chip.specs.declared.Response.{Response}
use Rattle.chip.specs.Inner.{said, says}
use Rattle.chip.specs.Request.{replies}
use Rattle.chip.specs.Frame.{reset, acknowledges, commanded}
use Rattle.chip.specs.Chip.{started_by, given_by, transacted}

-- ---- a command without information

no_information : (s : List ℕ) → length s ≡ 2 → eqb (length (drop 2 s)) 0 ≡ true
no_information s n = eq-eqb (length (drop 2 s)) 0 (length-drop 2 s ∙ omega arith)

module _ (l : Link) (port : ℕ) (s o p : List ℕ) (r : Response) (n : length s ≡ 2) where
  pub acknowledged : (m : Link) → ((rs : List ℕ) → said r rs p ≡ says (acknowledges (adapter m rs) port (get_or s 1 0)) o)
      → (rs : List ℕ) → said r rs p ≡ says (commanded (adapter l rs) (adapter m rs) port s) o
  unfolding commanded
  acknowledged m e rs = simp (no_information s n, e rs)

  pub reset_done : (rs : List ℕ) (m : Link) (id : ℕ) (ss : List ℕ) → id ≡ read rs ChipId → ss ≡ blank id → m ≡ fresh_link port
      → ((ts : List ℕ) → said r ts p ≡ says (acknowledges (adapter m ts) port (get_or s 1 0)) o)
      → said r ss p ≡ says (commanded (adapter l rs) (reset (adapter l rs) port) port s) o
  unfolding commanded powered_on
  reset_done rs m id ss f e g h = h ss ∙ simp (no_information s n, f, e, g)

-- ---- the end of a start

pub transacted_by : (l : Link) (rs s o p after bytes : List ℕ) (channel : ℕ) (acknowledge low : Bool) (r : Response) (kept len d : ℕ)
    (command : Option Command) (t : Transaction) (told : Reply) → kept ≡ read rs (master (channel - 3) Open) → bytes ≡ to_le_bytes w32 kept
    → command ≡ command_of (Master (channel - 3)) (get_or bytes 1 0) → t ≡ started_by command → len ≡ given_by command
    → after ≡ ended (channel - 3) t acknowledge low s rs → d ≡ end_data (channel - 3) t acknowledge low s rs → told ≡ granted len d
    → ((ts : List ℕ) → said r ts p ≡ says (replies (adapter l ts) (get_or bytes 0 0) channel told.error told.length told.value) o)
    → said r after p ≡ says (transacted (adapter l rs) channel acknowledge low s) o
unfolding transacted
transacted_by l rs s o p after bytes channel acknowledge low r kept len d command t told k b c f n e v i g = g after ∙ simp (i, v, n, e, f, c, b, k)
