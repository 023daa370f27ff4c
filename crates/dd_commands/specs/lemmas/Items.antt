-- Words, numbers, names, marks, vectors, shears and edges are read as they are written.
use denote.Enum.Bare.{same_true, true_same}
use Rattle.std.proofs.Common.{◌≡◌, true, List, [], ◌∷◌, ◌++◌, map, Option, Some, None, refl, ap, subst, append_assoc, arith}
use Rattle.std.proofs.lemmas.{List.Concat.flat_map_single, Option.cond_some}
use Rattle.dd_written.specs.{contracts.lexeme.Mark.the_type, lemmas.Names.name_sound, lemmas.Names.name_again}
use Rattle.dd_commands.specs.Tree.{Word, Number, Mark, Lexeme, Entry, Vector}
use Rattle.dd_commands.specs.Commands.{entry_lexeme, vector_text, is_plain, second_vector_text, IsPlainShear, edge_text}
use Rattle.dd_commands.specs.reading.Forms.{single}
use Rattle.dd_commands.specs.reading.Vectors.{word_at, word, number_at, number, name, entry_at, same_mark, mark_at, sign, vector, plain, or_none, shear, edge}
use Rattle.dd_commands.specs.lemmas.Forms.{some_is, Reads, then_reads, text_reads, such_reads, each_reads}

-- ---- single tokens

pub word_written : (tokens : List Lexeme) (x : Word) (rest : List Lexeme) → word_at tokens ≡ Some (x, rest) → tokens ≡ Lexeme.Word x ∷ rest
word_written (Lexeme.Word w ∷ tokens) x rest e = ap (λ (y : Word × List Lexeme). Lexeme.Word y.0 ∷ y.1) (some_is _ _ e)
word_written tokens x rest e = absurd cc

pub word_reads : Reads word
word_reads = record { written = λ tokens x rest e. (tt, word_written tokens x rest e); read = λ x rest any end. refl; last = tt }

number_written : (tokens : List Lexeme) (x : Number) (rest : List Lexeme) → number_at tokens ≡ Some (x, rest) → tokens ≡ Lexeme.Number x ∷ rest
number_written (Lexeme.Number n ∷ tokens) x rest e = ap (λ (y : Number × List Lexeme). Lexeme.Number y.0 ∷ y.1) (some_is _ _ e)
number_written tokens x rest e = absurd cc

pub number_reads : Reads number
number_reads = record { written = λ tokens x rest e. (tt, number_written tokens x rest e); read = λ x rest any end. refl; last = tt }

pub name_reads : Reads name
name_reads = record { written = λ tokens x rest e. (tt, name_sound tokens x rest e); read = λ x rest any end. name_again x rest; last = tt }

entry_written : (tokens : List Lexeme) (x : Entry) (rest : List Lexeme) → entry_at tokens ≡ Some (x, rest) → tokens ≡ entry_lexeme x ∷ rest
entry_written (Lexeme.Number n ∷ tokens) x rest e = ap (λ (y : Entry × List Lexeme). entry_lexeme y.0 ∷ y.1) (some_is _ _ e)
entry_written (Lexeme.Negative n ∷ tokens) x rest e = ap (λ (y : Entry × List Lexeme). entry_lexeme y.0 ∷ y.1) (some_is _ _ e)
entry_written tokens x rest e = absurd cc

entry_again : (n : Entry) (rest : List Lexeme) → entry_at (entry_lexeme n ∷ rest) ≡ Some (n, rest)
entry_again (Entry.Number n) rest = refl
entry_again (Entry.Negative n) rest = refl

entry_reads : Reads (single entry_lexeme entry_at)
entry_reads = record { written = λ tokens x rest e. (tt, entry_written tokens x rest e); read = λ x rest any end. entry_again x rest; last = tt }

sign_written : (m : Mark) (tokens : List Lexeme) (x : Unit {0}) (rest : List Lexeme) → mark_at m tokens ≡ Some (x, rest) → tokens ≡ Lexeme.Mark m ∷ rest
unfolding same_mark
sign_written m (Lexeme.Mark n ∷ tokens) x rest e =
    let same = cond_some (same_mark n m) (tt, tokens) (x, rest) e in
    rw (same_true the_type tt n m same.0) (ap (λ (y : Unit {0} × List Lexeme). Lexeme.Mark m ∷ y.1) same.1)
sign_written m tokens x rest e = absurd cc

sign_reads : (m : Mark) → Reads (sign m)
unfolding same_mark
sign_reads m = record { written = λ tokens x rest e. (tt, sign_written m tokens x rest e); read = λ x rest any end. rw (true_same the_type m m refl) refl; last = tt }

-- ---- vectors

pub vector_reads : Reads vector
vector_reads =
    text_reads _ (λ v. (tt, (v.entries, tt))) vector_text (λ x rest. simp append_assoc) (λ v. refl) (λ v. (tt, (tt, tt))) (λ rest. tt)
    (then_reads (sign_reads Mark.OpenList) (λ y rest is. tt)
    (then_reads (each_reads (λ e. entry_lexeme e ∷ []) (map entry_lexeme) entry_at (flat_map_single entry_lexeme) entry_reads (λ e. omega arith) refl) (λ y rest is. refl)
    (sign_reads Mark.CloseList)))

pub plain_reads : Reads plain
plain_reads = such_reads (λ v. is_plain v ≡ true) is_plain (λ v e. e) (λ v e. e) vector_reads

abbrev IsShear : List Lexeme → Option Vector × List Lexeme → Type 0
IsShear tokens y = IsPlainShear y.0 × (tokens ≡ second_vector_text y.0 ++ y.1)

shear_written : (tokens : List Lexeme) (read : Option (Vector × List Lexeme)) (s : Option Vector) (rest : List Lexeme) → plain.item tokens ≡ read → or_none read tokens ≡ Some (s, rest) → IsShear tokens (s, rest)
shear_written tokens None s rest is e = subst (IsShear tokens) (some_is _ _ e) (tt, refl)
shear_written tokens (Some v) s rest is e = subst (IsShear tokens) (some_is _ _ e) (let w = plain_reads.written tokens v.0 v.1 is in (w.0.0, w.1))

shear_again : (s : Option Vector) (rest : List Lexeme) → IsPlainShear s → plain.item rest ≡ None → shear.item (second_vector_text s ++ rest) ≡ Some (s, rest)
shear_again None rest is ended = rw ended refl
shear_again (Some v) rest is ended = rw (plain_reads.read v rest (is, tt) tt) refl

pub shear_reads : Reads shear
shear_reads = record { written = λ tokens s rest e. shear_written tokens (plain.item tokens) s rest refl e; read = shear_again; last = refl }

-- ---- edges

pub edge_reads : Reads edge
edge_reads =
    text_reads _ (λ e. (tt, (e.label, (e.from, (e.offset, (e.to, tt)))))) edge_text (λ x rest. simp append_assoc) (λ e. refl) (λ e. (tt, (tt, (tt, (tt, (tt, tt)))))) (λ rest. tt)
    (then_reads (sign_reads Mark.Open) (λ y rest is. tt)
    (then_reads word_reads (λ y rest is. tt)
    (then_reads name_reads (λ y rest is. tt)
    (then_reads vector_reads (λ y rest is. tt)
    (then_reads name_reads (λ y rest is. tt) (sign_reads Mark.Close))))))
