-- Width by width.
use Rattle.parts.proofs.Digits.{reads_byte, reads_half, reads_word}
use Rattle.parts.proofs.number_at.Goals as goal

pub returns-in-Byte : goal.returns-in-Byte
returns-in-Byte c = search reads_byte

pub returns-in-Half : goal.returns-in-Half
returns-in-Half c = search reads_half

pub returns-in-Word : goal.returns-in-Word
returns-in-Word c = search reads_word
