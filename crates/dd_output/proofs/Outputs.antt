-- The laws of the answers, the script and the whole output.
use Rattle.std.proofs.Common.{◌≡◌, ℕ, suc, ◌+◌, ◌<◌, ◌≤◌, List, [], ◌∷◌, ◌++◌, length, drop, false, ◌⊎◌, inl, inr, refl, sym, ap, ◌∙◌, append_assoc, arith}
use Rattle.std.proofs.lemmas.{Fmt.decimal_digit, Bool.ltb-true, Bool.ltb-false, List.length-replicate}
use Rattle.std.proofs.lemmas.List.Elements.{All-from_recursion, recursion_from_All}
use Rattle.std.specs.{Prelude.◌==◌, Prelude.codes, Prelude.nat_lt, Prelude.replicate, Fmt.decimal, List.AllByRecursion}
use Rattle.dd_certificate.specs.{declared.answer.Answer.Answer, Text.line_feed, Text.verdict_text, Text.further_lines, Text.answer_text}
use Rattle.dd_certificate.specs.Bounds.{IsWritable}
use Rattle.dd_values.specs.Bounds.{most_script, most_commands}
use Rattle.dd_output.specs.Outputs.{answers_text, end_line, output_text, IsWritableOutput}
use Rattle.dd_output.specs.reading.Stops.{Read, before, word_at, number_at, bytes_at, then_at, after_at, map_at, Entry, item, last, entries_at}
use Rattle.dd_output.specs.reading.{Lists.items_of, Lists.ended, Grammar.answer_form}
use Rattle.dd_output.specs.reading.Whole.{answer_entry_of, query_text, open_entry, answer_entry, answers_at, script_of, script_at, output_of, head_text, output_at}
use Rattle.dd_output.proofs.Readers.{Reads, before_reads, then_reads, map_reads, same_reads, choice_reads}
use Rattle.dd_output.proofs.{Tokens.word_reads, Tokens.bytes_reads, Tokens.after_reads, Numbers.number_reads}
use Rattle.dd_output.proofs.Entries.{entries_text, AllFrom, entry_fits, entry_text, entries_reads, unrolls}
use Rattle.dd_output.proofs.{Loops.Unrolls, EndedLists.IsList, EndedLists.list_more}
use Rattle.dd_output.proofs.Forms.{IsText, ReadsText, InBounds, number_text, only, text_map}
use Rattle.dd_output.proofs.{Periods.cond_reads, FirstBytes.body_text, AnswerRows.answer_good}
use Rattle.dd_certificate.specs.declared.answer.Answer.TheVariants as answer

-- the text of the answer with index k, from 0
abbrev pub answer_text_at : ℕ → Answer → List ℕ
answer_text_at k a = answer_text (suc k) a

abbrev end_text : List ℕ
end_text = end_line

abbrev FitsAt : ℕ → Answer → Type 0
FitsAt k a = (k < most_commands) × IsWritable a

abbrev done : ℕ → Unit {0} → Type 0
done k y = Unit {0}

abbrev the_end : ℕ → Unit {0} → List ℕ
the_end k y = end_text

abbrev Answers : ℕ → List ℕ → Type 0
Answers = IsList {B = Unit {0}} FitsAt answer_text_at done the_end

abbrev answer_fits : ℕ → Entry Answer (Unit {0}) → Type 0
answer_fits = entry_fits {B = Unit {0}} FitsAt done

abbrev entry_answer : ℕ → Entry Answer (Unit {0}) → List ℕ
entry_answer = entry_text {B = Unit {0}} answer_text_at the_end

abbrev is_answer : Entry Answer (Unit {0}) → Type 0
is_answer (item a) = IsWritable a
is_answer (last y) = ⊥

abbrev is_end : Entry Answer (Unit {0}) → Type 0
is_end (item a) = ⊥
is_end (last y) = Unit {0}

query_is : (k : ℕ) (a : Answer) → answer_text_at k a ≡ query_text k ++ body_text a
query_is k a =
    let front = query_text k in
    ap (λ (l : List ℕ). l ++ further_lines a) (ap (λ (l : List ℕ). codes "query " ++ l) (sym (append_assoc (decimal (suc k)) (32 ∷ []) (verdict_text a))))
    ∙ append_assoc front (verdict_text a) (further_lines a)

answer_from : (k : ℕ) (e : Entry Answer (Unit {0})) → is_answer e → (x : Answer) × (entry_answer k e ≡ query_text k ++ body_text x) × IsWritable x × (answer_entry_of x ≡ e)
answer_from k (item a) good = (a, query_is k a, good, refl)
answer_from k (last y) good = elim good [ ]

end_from : (k : ℕ) (e : Entry Answer (Unit {0})) → is_end e → (x : Unit {0}) × (entry_answer k e ≡ end_text) × Unit {0} × (ended x ≡ e)
end_from k (item a) good = elim good [ ]
end_from k (last y) good = (tt, refl, tt, refl)

query_first : (k : ℕ) (e : Entry Answer (Unit {0})) → is_answer e → (more : List ℕ) × (entry_answer k e ≡ 113 ∷ more)
query_first k (item a) good = (drop 1 (answer_text_at k a), refl)
query_first k (last y) good = elim good [ ]

end_first : (k : ℕ) (e : Entry Answer (Unit {0})) → is_end e → (b : ℕ) × (more : List ℕ) × (entry_answer k e ≡ b ∷ more) × ((b == 113) ≡ false)
end_first k (item a) good = elim good [ ]
end_first k (last y) good = (101, drop 1 end_text, refl, refl)

ends_reads : (k : ℕ) → Reads is_end (entry_answer k) (Answers k) (map_at ended (word_at end_text))
ends_reads k =
    map_reads (λ _. Unit {0}) (λ _. end_text) (Answers k) (word_at end_text) is_end (entry_answer k) ended
    (same_reads _ _ _ (word_at end_text) (λ _. Unit {0}) (λ _. end_text) (Answers k) (word_reads end_text) (λ x good. (refl, tt)) (λ x good. (refl, tt)) (λ text is. ([], tt, tt, is)))
    (λ x good. (refl, tt)) (end_from k)

one_answer : (k : ℕ) (a : Answer) (text : List ℕ) → k < most_commands → IsWritable a → text ≡ query_text k ++ (body_text a ++ end_text) → Answers k text
one_answer k a text room good is =
    (a ∷ [], tt, ((room, good), tt), is ∙ (sym (append_assoc (query_text k) (body_text a) end_text) ∙ ap (λ (l : List ℕ). l ++ end_text) (sym (query_is k a))))

open_reads : (k : ℕ) → k < most_commands → Reads (λ e. is_answer e ⊎ is_end e) (entry_answer k) (Answers k) (open_entry k)
unfolding open_entry
open_reads k room =
    let body : List ℕ → Read Answer = λ bytes. before end_text (answer_form.read bytes) in
    let C : List ℕ → Type 0 = λ text. (a : Answer) × IsWritable a × (text ≡ body_text a ++ end_text) in
    let read : Reads IsWritable body_text C body =
    before_reads IsWritable body_text (IsText IsWritable body_text) C answer_form.read end_text answer_good.law (λ text a. (a.0, a.1, ap (λ (l : List ℕ). l ++ end_text) a.2)) in
    let queried : Reads IsWritable (λ a. query_text k ++ body_text a) (Answers k) (after_at (query_text k) (codes "IN" ++ 10 ∷ end_text) body) =
    after_reads IsWritable body_text C (Answers k) body (query_text k) (codes "IN" ++ 10 ∷ end_text) read
    (one_answer k answer.Inside _ room tt refl)
    (λ text a. one_answer k a.0 _ room a.1 (ap (λ (l : List ℕ). query_text k ++ l) a.2)) in
    choice_reads is_answer is_end (entry_answer k) (Answers k) 113 (map_at answer_entry_of (after_at (query_text k) (codes "IN" ++ 10 ∷ end_text) body)) (map_at ended (word_at end_text))
    (map_reads IsWritable (λ a. query_text k ++ body_text a) (Answers k) (after_at (query_text k) (codes "IN" ++ 10 ∷ end_text) body) is_answer (entry_answer k) answer_entry_of queried
    (λ a good. (query_is k a, good)) (answer_from k))
    (ends_reads k) (query_first k) (end_first k)

open_to : (k : ℕ) → k < most_commands → (e : Entry Answer (Unit {0})) → is_answer e ⊎ is_end e → answer_fits k e
open_to k room (item a) (inl good) = (room, good)
open_to k room (item a) (inr bad) = elim bad [ ]
open_to k room (last y) good = tt

to_open : (k : ℕ) (e : Entry Answer (Unit {0})) → answer_fits k e → is_answer e ⊎ is_end e
to_open k (item a) good = inl good.1
to_open k (last y) good = inr tt

closed_to : (k : ℕ) (e : Entry Answer (Unit {0})) → is_end e → answer_fits k e
closed_to k (item a) bad = elim bad [ ]
closed_to k (last y) good = tt

to_closed : (k : ℕ) → most_commands ≤ k → (e : Entry Answer (Unit {0})) → answer_fits k e → is_end e
to_closed k full (item a) good = absurd (omega (arith, good.0, full))
to_closed k full (last y) good = tt

answer_entry_reads : (k : ℕ) → Reads (answer_fits k) (entry_answer k) (Answers k) (answer_entry k)
unfolding answer_entry
answer_entry_reads k =
    cond_reads (answer_fits k) (entry_answer k) (Answers k) (nat_lt k most_commands) (open_entry k) (map_at ended (word_at end_text))
    (λ is. let room : k < most_commands = ltb-true k most_commands is in
    same_reads (λ e. is_answer e ⊎ is_end e) (entry_answer k) (Answers k) (open_entry k) (answer_fits k) (entry_answer k) (Answers k) (open_reads k room)
    (λ e good. (refl, open_to k room e good)) (λ e good. (refl, to_open k e good)) (λ text a. a))
    (λ is. let full : most_commands ≤ k = ltb-false k most_commands is in
    same_reads is_end (entry_answer k) (Answers k) (map_at ended (word_at end_text)) (answer_fits k) (entry_answer k) (Answers k) (ends_reads k)
    (λ e good. (refl, closed_to k e good)) (λ e good. (refl, to_closed k full e good)) (λ text a. a))

answer_some : (k : ℕ) (a : Answer) → 0 < length (answer_text_at k a)
answer_some k a = omega arith

pub answer_unrolls : Unrolls {B = Unit {0}} answer_entry
answer_unrolls =
    unrolls FitsAt answer_text_at done the_end Answers answer_entry answer_entry_reads (λ k x good. answer_some k x)
    (λ k x text good rest. list_more {B = Unit {0}} FitsAt answer_text_at done the_end k x text good rest)

-- ---- all answers

abbrev FitsAll : List Answer → Type 0
FitsAll list = (length list ≤ most_commands) × AllByRecursion IsWritable list

few_answers : (k : ℕ) (list : List Answer) (y : Unit {0}) → k ≤ most_commands → AllFrom FitsAt done k list y → k + length list ≤ most_commands
few_answers k [] y room good = omega (arith, room)
few_answers k (a ∷ list) y room good =
    let rest = few_answers (suc k) list y (omega (arith, good.0.0)) good.1 in
    omega (arith, rest)

all_answers : (k : ℕ) (list : List Answer) (y : Unit {0}) → AllFrom FitsAt done k list y → AllByRecursion IsWritable list
all_answers k [] y good = tt
all_answers k (a ∷ list) y good = (good.0.1, all_answers (suc k) list y good.1)

from_all : (k : ℕ) (list : List Answer) (y : Unit {0}) → k + length list ≤ most_commands → AllByRecursion IsWritable list → AllFrom FitsAt done k list y
from_all k [] y few good = tt
from_all k (a ∷ list) y few good = ((omega (arith, few), good.0), from_all (suc k) list y (omega (arith, few)) good.1)

fits_all : (list : List Answer) (y : Unit {0}) → AllFrom FitsAt done 0 list y → FitsAll list
fits_all list y good = (omega (arith, few_answers 0 list y (omega arith) good), all_answers 0 list y good)

abbrev list_text : List Answer → List ℕ
list_text list = answers_text 1 list ++ end_line

answers_are : (k : ℕ) (list : List Answer) → entries_text answer_text_at the_end k list tt ≡ answers_text (suc k) list ++ end_line
answers_are k [] = refl
answers_are k (a ∷ list) =
    ap (λ (l : List ℕ). answer_text_at k a ++ l) (answers_are (suc k) list) ∙ sym (append_assoc (answer_text_at k a) (answers_text (suc (suc k)) list) end_line)

answers_reads : ReadsText FitsAll list_text answers_at
answers_reads =
    let F : List Answer × Unit {0} → Type 0 = λ x. AllFrom FitsAt done 0 x.0 x.1 in
    let t : List Answer × Unit {0} → List ℕ = λ x. entries_text answer_text_at the_end 0 x.0 x.1 in
    let whole : Reads F t (Answers 0) (entries_at answer_entry 0) =
    entries_reads FitsAt answer_text_at done the_end Answers answer_entry answer_entry_reads (λ k x good. answer_some k x)
    (λ k x text good rest. list_more {B = Unit {0}} FitsAt answer_text_at done the_end k x text good rest) 0 in
    text_map F t (entries_at answer_entry 0) FitsAll list_text items_of
    (same_reads F t (Answers 0) (entries_at answer_entry 0) F t (IsText F t) whole (λ x good. (refl, good)) (λ x good. (refl, good)) (λ text a. ((a.0, a.1), a.2, a.3)))
    (λ x good. (sym (answers_are 0 x.0), fits_all x.0 x.1 good))
    (λ list good. ((list, tt), sym (answers_are 0 list), from_all 0 list tt (omega (arith, good.0)) good.1, refl))

-- ---- the script

abbrev script_text : List ℕ → List ℕ
script_text script = decimal (length script) ++ (10 ∷ (script ++ line_feed))

abbrev FitsScript : List ℕ → Type 0
FitsScript s = length s ≤ most_script

abbrev Scripts : List ℕ → Type 0
Scripts text = (s : List ℕ) × FitsScript s × (text ≡ script_text s ++ end_text)

abbrev raw_text : List ℕ × Unit {0} → List ℕ
raw_text x = x.0 ++ line_feed

raw_at : ℕ → List ℕ → Read (List ℕ × Unit {0})
raw_at n = then_at (λ bytes. before (10 ∷ end_text) (bytes_at n bytes)) (λ _ bytes. before end_text (word_at (10 ∷ []) bytes))

raw_reads : (n : ℕ) → Reads (λ x. (length x.0 ≡ n) × Unit {0}) raw_text (λ text. (s : List ℕ) × (length s ≡ n) × (text ≡ s ++ 10 ∷ end_text)) (raw_at n)
unfolding raw_at
raw_reads n =
    let C : List ℕ → Type 0 = λ text. (s : List ℕ) × (length s ≡ n) × (text ≡ s ++ 10 ∷ end_text) in
    then_reads (λ s. length s ≡ n) (λ s. s) C (λ bytes. before (10 ∷ end_text) (bytes_at n bytes)) (λ _ _. Unit {0}) (λ _ _. line_feed) (λ _ text. text ≡ 10 ∷ end_text) (λ _ bytes. before end_text (word_at (10 ∷ []) bytes))
    (before_reads _ _ _ C (bytes_at n) (10 ∷ end_text) (bytes_reads n) (λ text long. (text, long, refl)))
    (λ s long. before_reads _ _ _ (λ text. text ≡ 10 ∷ end_text) (word_at (10 ∷ [])) end_text (word_reads (10 ∷ [])) (λ text is. ap (λ (l : List ℕ). l ++ end_text) is))
    (λ s text long is. (s, long, ap (λ (l : List ℕ). s ++ l) is))

abbrev FitsRaw : (ℕ × ℕ) × (List ℕ × Unit {0}) → Type 0
FitsRaw p = InBounds 0 most_script 10 10 p.0 × ((length p.1.0 ≡ p.0.0) × Unit {0})

abbrev whole_raw : (ℕ × ℕ) × (List ℕ × Unit {0}) → List ℕ
whole_raw p = number_text p.0 ++ raw_text p.1

script_is : (n : ℕ) (s : List ℕ) (e : ℕ) → length s ≡ n → e ≡ 10 → script_text s ≡ (decimal n ++ e ∷ []) ++ (s ++ line_feed)
script_is n s e long is = rw long (ap (λ e. decimal n ++ e ∷ (s ++ line_feed)) (sym is) ∙ sym (append_assoc (decimal n) (e ∷ []) (s ++ line_feed)))

a_script : (s text : List ℕ) → FitsScript s → text ≡ decimal (length s) ++ 10 ∷ (s ++ 10 ∷ end_text) → Scripts text
a_script s text good is =
    (s, good, is ∙ (ap (λ (l : List ℕ). decimal (length s) ++ 10 ∷ l) (sym (append_assoc s line_feed end_text)) ∙ sym (append_assoc (decimal (length s)) (10 ∷ (s ++ line_feed)) end_text)))

script_reads : Reads FitsScript script_text Scripts script_at
unfolding script_at raw_at
script_reads =
    let number : Reads (InBounds 0 most_script 10 10) number_text Scripts (number_at 0 most_script 10 10 (λ n. replicate n 0 ++ 10 ∷ end_text)) =
    number_reads 0 most_script 10 10 (λ n. replicate n 0 ++ 10 ∷ end_text) (omega arith) (omega arith) (omega arith) refl refl Scripts
    (λ m least most. let long : length (replicate {A = ℕ} m 0) ≡ m = length-replicate {A = ℕ} m 0 in
    a_script (replicate m 0) _ (rw long most) (rw long refl)) in
    let both : Reads FitsRaw whole_raw Scripts (then_at (number_at 0 most_script 10 10 (λ n. replicate n 0 ++ 10 ∷ end_text)) (λ n. raw_at n.0)) =
    then_reads (InBounds 0 most_script 10 10) number_text Scripts (number_at 0 most_script 10 10 (λ n. replicate n 0 ++ 10 ∷ end_text))
    (λ n x. (length x.0 ≡ n.0) × Unit {0}) (λ _. raw_text) (λ n text. (s : List ℕ) × (length s ≡ n.0) × (text ≡ s ++ 10 ∷ end_text)) (λ n. raw_at n.0) number (λ n _. raw_reads n.0)
    (λ n text first a. a_script a.0 _ (rw a.1 first.1)
    (ap (λ (l : List ℕ). number_text n ++ l) a.2 ∙ (append_assoc (decimal n.0) (n.1 ∷ []) (a.0 ++ 10 ∷ end_text)
    ∙ (ap (λ e. decimal n.0 ++ e ∷ (a.0 ++ 10 ∷ end_text)) (only 10 n.1 first.2) ∙ ap (λ k. decimal k ++ 10 ∷ (a.0 ++ 10 ∷ end_text)) (sym a.1))))) in
    map_reads FitsRaw whole_raw Scripts (then_at (number_at 0 most_script 10 10 (λ n. replicate n 0 ++ 10 ∷ end_text)) (λ n. raw_at n.0)) FitsScript script_text script_of both
    (λ p good. (script_is p.0.0 p.1.0 p.0.1 good.1.0 (only 10 p.0.1 good.0.2), rw good.1.0 good.0.1))
    (λ s good. (((length s, 10), (s, tt)), script_is (length s) s 10 refl refl, ((omega arith, good, inl refl), (refl, tt)), refl))

-- ---- the output

abbrev FitsPair : List ℕ × List Answer → Type 0
FitsPair x = FitsScript x.0 × FitsAll x.1

abbrev pair_text : List ℕ × List Answer → List ℕ
pair_text x = script_text x.0 ++ list_text x.1

output_is : (script : List ℕ) (list : List Answer) → output_text (record { script = script; answers = list }) ≡ head_text ++ pair_text (script, list)
output_is script list = ap (λ (l : List ℕ). head_text ++ (l ++ list_text list)) (append_assoc (decimal (length script)) line_feed (script ++ line_feed))

pub output_reads : ReadsText IsWritableOutput output_text output_at
unfolding output_at
output_reads =
    let both : ReadsText FitsPair pair_text (then_at script_at (λ _. answers_at)) =
    then_reads FitsScript script_text (IsText FitsPair pair_text) script_at (λ _. FitsAll) (λ _. list_text) (λ _. IsText FitsAll list_text) (λ _. answers_at)
    (same_reads FitsScript script_text Scripts script_at FitsScript script_text (IsText FitsPair pair_text) script_reads (λ x good. (refl, good)) (λ x good. (refl, good))
    (λ text a. ((a.0, []), (a.1, (omega arith, tt)), a.2)))
    (λ s good. answers_reads)
    (λ s text good a. ((s, a.0), (good, a.1), ap (λ (l : List ℕ). script_text s ++ l) a.2)) in
    let head : ReadsText FitsPair (λ x. head_text ++ pair_text x) (after_at head_text (48 ∷ 10 ∷ 10 ∷ end_text) (then_at script_at (λ _. answers_at))) =
    after_reads FitsPair pair_text (IsText FitsPair pair_text) (IsText FitsPair (λ x. head_text ++ pair_text x)) (then_at script_at (λ _. answers_at)) head_text (48 ∷ 10 ∷ 10 ∷ end_text) both
    (([], []), (omega arith, (omega arith, tt)), ap (λ (l : List ℕ). head_text ++ (l ++ 10 ∷ 10 ∷ end_text)) (sym (decimal_digit 0 (omega arith))) ∙ ap (λ (l : List ℕ). head_text ++ l) (sym (append_assoc (decimal 0) (10 ∷ line_feed) end_text)))
    (λ text a. (a.0, a.1, ap (λ (l : List ℕ). head_text ++ l) a.2)) in
    text_map FitsPair (λ x. head_text ++ pair_text x) (after_at head_text (48 ∷ 10 ∷ 10 ∷ end_text) (then_at script_at (λ _. answers_at))) IsWritableOutput output_text output_of head
    (λ x good. (output_is x.0 x.1, (good.0, good.1.0, All-from_recursion IsWritable x.1 good.1.1)))
    (λ o good. ((o.script, o.answers), output_is o.script o.answers, (good.0, (good.1, recursion_from_All IsWritable o.answers good.2)), refl))
