use Rattle.std.proofs.Common.{◌≡◌, ℕ, zero, suc, ◌<◌, List, [], ◌∷◌, length, drop, refl, arith}
use Rattle.dd_output.specs.reading.Stops.{Read, StoppedAt, word_at}
use Rattle.dd_output.proofs.lexing.word_at.Goals as goal

-- if the bytes end inside the word, reading stops there
ends_inside : (word : List ℕ) (i : ℕ) (bytes : List ℕ) (total : Read (Unit {0})) → i < length word → length bytes < 1 → word_at (drop i word) bytes ≡ total → StoppedAt (length bytes) total
ends_inside [] i bytes total lt short is = absurd (omega arith)
ends_inside (w ∷ word) i (b ∷ bytes) total lt short is = absurd (omega arith)
ends_inside (w ∷ word) zero [] total lt short is = rw (← is) refl
ends_inside (w ∷ word) (suc i) [] total lt short is = ends_inside word i [] total (omega arith) short is

pub returns-in-empty : goal.returns-in-empty
returns-in-empty c =
    ends_inside c.args.word.now c.loop-letter.letter-index c.loop-letter.rest.now (word_at c.args.word.now c.args.bytes.now)
    c.loop-letter-test.true c.in-empty.len_below c.loop-letter.invariant
