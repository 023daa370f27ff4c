-- The kinds of answers, and the bytes that tell them apart.
use Rattle.std.proofs.Common.{◌≡◌, ℕ, List, ◌∷◌, ◌++◌, drop, false, ◌⊎◌, inl, inr, refl, ap, ◌∙◌}
use Rattle.std.specs.Prelude.{◌==◌}
use Rattle.dd_certificate.specs.{declared.answer.Answer.Answer, Text.verdict_text, Text.further_lines, Bounds.IsWritable}
use Rattle.dd_output.specs.reading.Forms.{Form, after, either}
use Rattle.dd_output.proofs.{Tables.Keyed, Forms.Good, Forms.good_same, Forms.good_after, Forms.good_either}
use Rattle.dd_certificate.specs.declared.answer.Answer.TheVariants as answer

-- all lines of an answer, without the word `query` and the query's number
abbrev pub body_text : Answer → List ℕ
body_text a = verdict_text a ++ further_lines a

-- the byte with which the first of these lines begins
abbrev pub first_of : Answer → ℕ
first_of answer.Inside = 73
first_of (answer.Outside place) = 79
first_of (answer.Yes radius steps) = 89
first_of (answer.YesBoth left right left_steps right_steps) = 89
first_of (answer.No side periods shear symbols) = 78
first_of (answer.Unknown reason) = 85
first_of (answer.List patterns) = 76
first_of (answer.Density numerator denominator cycle potentials) = 68
first_of (answer.Empty ranks) = 69
first_of (answer.Bound numerator denominator common amounts duals) = 66
first_of (answer.Minimal patterns) = 77
first_of (answer.Conjugate radii steps) = 67
first_of (answer.Broken part periods shear symbols) = 66
first_of (answer.Least weight symbols steps) = 76
first_of (answer.Nothing steps) = 78

pub first_is : (a : Answer) → IsWritable a → (more : List ℕ) × (body_text a ≡ first_of a ∷ more)
first_is answer.Inside good = (drop 1 (body_text answer.Inside), refl)
first_is (answer.Outside place) good = (drop 1 (body_text (answer.Outside place)), refl)
first_is (answer.Yes radius steps) good = (drop 1 (body_text (answer.Yes radius steps)), refl)
first_is (answer.YesBoth left right left_steps right_steps) good = (drop 1 (body_text (answer.YesBoth left right left_steps right_steps)), refl)
first_is (answer.No side periods shear symbols) good = (drop 1 (body_text (answer.No side periods shear symbols)), refl)
first_is (answer.Unknown reason) good = (drop 1 (body_text (answer.Unknown reason)), refl)
first_is (answer.List patterns) good = (drop 1 (body_text (answer.List patterns)), refl)
first_is (answer.Density numerator denominator cycle potentials) good = (drop 1 (body_text (answer.Density numerator denominator cycle potentials)), refl)
first_is (answer.Empty ranks) good = (drop 1 (body_text (answer.Empty ranks)), refl)
first_is (answer.Bound numerator denominator common amounts duals) good = (drop 1 (body_text (answer.Bound numerator denominator common amounts duals)), refl)
first_is (answer.Minimal patterns) good = (drop 1 (body_text (answer.Minimal patterns)), refl)
first_is (answer.Conjugate radii steps) good = (drop 1 (body_text (answer.Conjugate radii steps)), refl)
first_is (answer.Broken part periods shear symbols) good = (drop 1 (body_text (answer.Broken part periods shear symbols)), refl)
first_is (answer.Least weight symbols steps) good = (drop 1 (body_text (answer.Least weight symbols steps)), refl)
first_is (answer.Nothing steps) good = (drop 1 (body_text (answer.Nothing steps)), refl)

-- an output can hold the answer, and the first line of the answer's `body_text` begins with this byte
abbrev pub Row : ℕ → Answer → Type 0
Row = Keyed IsWritable first_of

-- ---- kinds whose texts begin alike

-- `No` and `Nothing` share a row, and so do `List` and `Least`, and `Bound` and `Broken`. For these answers, this is the byte after the part that the
-- two texts of the row share. It is 0 for all other answers.
abbrev pub second_of : Answer → ℕ
second_of (answer.No side periods shear symbols) = 32
second_of (answer.Nothing steps) = 78
second_of (answer.List patterns) = 73
second_of (answer.Least weight symbols steps) = 69
second_of (answer.Bound numerator denominator common amounts duals) = 79
second_of (answer.Broken part periods shear symbols) = 82
second_of _ = 0

-- an answer in the row of the byte `first`; the byte after the shared part of its text is `second`
abbrev pub Second : ℕ → ℕ → Answer → Type 0
Second first second = Keyed (Row first) second_of second

-- the lines of an answer, without their first n bytes
abbrev pub tail_text : ℕ → Answer → List ℕ
tail_text n a = drop n (body_text a)

abbrev pub Either : ℕ → ℕ → ℕ → Answer → Type 0
Either first one two a = Second first one a ⊎ Second first two a

either_first : (first one two : ℕ) (a : Answer) → Either first one two a → Row first a
either_first first one two a (inl good) = good.0
either_first first one two a (inr good) = good.0

-- a row for two kinds is good if their forms are good, their texts both begin with w, and the next byte tells the kinds apart
pub good_front : (w : List ℕ) (n first one two : ℕ) (f g : Form Answer) → (two == one) ≡ false → Good (Second first one) (tail_text n) f → Good (Second first two) (tail_text n) g
    → ((a : Answer) → Row first a → (body_text a ≡ w ++ tail_text n a) × Either first one two a)
    → ((a : Answer) → Row first a → (more : List ℕ) × (tail_text n a ≡ second_of a ∷ more))
    → Good (Row first) body_text (after w (either one f g))
good_front w n first one two f g apart good other shared next =
    good_same (Either first one two) (λ a. w ++ tail_text n a) (after w (either one f g)) (Row first) body_text
    (good_after w (Either first one two) (tail_text n) (either one f g)
    (good_either (Second first one) (Second first two) (tail_text n) one f g good other
    (λ a fits. let t = next a fits.0 in (t.0, t.1 ∙ ap (λ b. b ∷ t.0) fits.1))
    (λ a fits. let t = next a fits.0 in (two, t.0, t.1 ∙ ap (λ b. b ∷ t.0) fits.1, apart))))
    (λ a fits. let row = either_first first one two a fits in ((shared a row).0, row))
    (λ a row. shared a row)
