-- How the texts of answers, or their first lines, follow one another, and how much of an output is written if it is cut short. If a comment only says
-- what happened, its lemma is about that case.
use Rattle.std.proofs.Common.{◌≡◌, ℕ, ◌+◌, ◌<◌, List, [], ◌∷◌, ◌++◌, length, take, drop, get_or, Bool, true, false, ◌||◌, refl, sym, ◌∙◌, ap, subst, inl, inr, Result, Ok, Err, IfOk, OnOk, OnErr, append-nil, append_assoc, length-append, take-append-drop, length-take-le, arith}
use Rattle.std.proofs.{KnownBytes.Appends-trans, KnownBytes.Appends-nil, lemmas.List.take_more}
use Rattle.std.specs.{declared.option.Option.Option, Io.KnownBytes.Appends}
use Rattle.dd_outside.specs.{Bytes.GainsFront, lemmas.ByteLaws.front_after}
use Rattle.dd_certificate.specs.{declared.answer.Answer.Answer, Text.answer_text, Bounds.IsWritable}
use Rattle.dd_query.specs.declared.queries.Query.{Query}
use Rattle.dd_answer.specs.Right.{Right}
use Rattle.dd_respond.specs.Right.{is_unknown}
use Rattle.dd_script.specs.Parts.{Parts}
use Rattle.dd_session.specs.{Answers.AllRight, Answers.has_unknown, Answers.texts, Output.header, declared.stream.RunFault.RunFault}
use Rattle.dd_session.specs.Written.{Answered, AnsweredFront, AnsweredToEnd, AnsweredShort, WholeOutput, CutShort}
use Rattle.dd_output.specs.Outputs.{end_line}

-- ---- lists of answers

AllRight-append : (s : Parts) (qs rs : List Query) (xs ys : List Answer)
    → AllRight s qs xs → length xs ≡ length qs → AllRight s rs ys → AllRight s (qs ++ rs) (xs ++ ys)
AllRight-append s [] rs [] ys p same r = r
AllRight-append s [] rs (x ∷ xs) ys p same r = absurd p
AllRight-append s (q ∷ qs) rs [] ys p same r = absurd (omega (arith, same))
AllRight-append s (q ∷ qs) rs (x ∷ xs) ys p same r =
    let fewer : length xs ≡ length qs = omega (arith, same) in (p.0, p.1, AllRight-append s qs rs xs ys p.2 fewer r)

AllRight-more : (s : Parts) (qs rs : List Query) (xs : List Answer) → AllRight s qs xs → AllRight s (qs ++ rs) xs
AllRight-more s qs rs [] p = tt
AllRight-more s [] rs (x ∷ xs) p = absurd p
AllRight-more s (q ∷ qs) rs (x ∷ xs) p = (p.0, p.1, AllRight-more s qs rs xs p.2)

has_unknown-append : (xs ys : List Answer) → has_unknown (xs ++ ys) ≡ (has_unknown xs || has_unknown ys)
has_unknown-append [] ys = refl
has_unknown-append (x ∷ xs) ys =
    ap (λ (b : Bool). is_unknown x || b) (has_unknown-append xs ys) ∙ sym (or_assoc (is_unknown x) (has_unknown xs) (has_unknown ys))
  where
    or_assoc : (a b c : Bool) → ((a || b) || c) ≡ (a || (b || c))
    or_assoc true b c = refl
    or_assoc false b c = refl

-- ---- lists of queries

-- the first queries and one more
pub one_more : (queries : List Query) (done : ℕ) (q : Query) → done < length queries → q ≡ get_or queries done q
    → take done queries ++ q ∷ [] ≡ take (done + 1) queries
one_more queries done q less is = ap (λ (x : Query). take done queries ++ x ∷ []) is ∙ sym (take_more queries done q less)

after_first : (queries : List Query) (done next : ℕ) → done < length queries → next ≡ done + 1 → next ≡ 1 + length (take done queries)
after_first queries done next less is = omega (arith, is, length-take-le done queries (omega (arith, less)))

-- ---- answers one by one, each whole or its first line

-- Nothing of a text was written.
pub front_of_nothing : (a : Option (List ℕ)) (text : List ℕ) → GainsFront a a text
front_of_nothing a text = record { gained = []; missing = text; appends = Appends-nil a; whole = refl }

module _ (written : ℕ → Answer → List ℕ) where
  texts-append : (first : ℕ) (xs ys : List Answer) → texts written first (xs ++ ys) ≡ texts written first xs ++ texts written (first + length xs) ys
  texts-append first [] ys = ap (λ (n : ℕ). texts written n ys) (omega arith)
  texts-append first (x ∷ xs) ys =
      let same : first + 1 + length xs ≡ first + length (x ∷ xs) = omega arith in
      ap (λ (l : List ℕ). written first x ++ l) (texts-append (first + 1) xs ys ∙ ap (λ (n : ℕ). texts written (first + 1) xs ++ texts written n ys) same)
      ∙ sym (append_assoc (written first x) (texts written (first + 1) xs) (texts written (first + length (x ∷ xs)) ys))

  -- One answer was written.
  pub answered_one : (a b : Option (List ℕ)) (s : Parts) (q : Query) (number : ℕ) (x : Answer) (r : Result Bool RunFault)
      → Right s q x → IsWritable x → IfOk r (λ u. u ≡ is_unknown x) → OnOk r (Appends a b (written number x))
      → IfOk r (λ u. Answered written a b s (q ∷ []) number u)
  answered_one a b s q number x (Ok u) is_right fits known gained = record {
    answers = x ∷ [];
    right = (is_right, fits, tt);
    each = refl;
    unknown_is = or_false (is_unknown x) ∙ sym known;
    appends = subst (Appends a b) (sym (append-nil (written number x))) gained;
  }
    where
      or_false : (b : Bool) → (b || false) ≡ b
      or_false true = refl
      or_false false = refl
  answered_one a b s q number x (Err e) is_right fits known gained = tt

  pub front_of_one : (a b : Option (List ℕ)) (s : Parts) (q : Query) (number : ℕ) (x : Answer) (r : Result Bool RunFault)
      → Right s q x → IsWritable x → OnErr r (GainsFront a b (written number x)) → OnErr r (AnsweredFront written a b s (q ∷ []) number)
  front_of_one a b s q number x (Ok u) is_right fits front = tt
  front_of_one a b s q number x (Err e) is_right fits front = record {
    answers = x ∷ [];
    right = (is_right, fits, tt);
    front = subst (GainsFront a b) (sym (append-nil (written number x))) front;
  }

  -- No answer was written.
  pub answered_none : (a : Option (List ℕ)) (s : Parts) (first : ℕ) → Answered written a a s [] first false
  answered_none a s first = record { answers = []; right = tt; each = refl; unknown_is = refl; appends = Appends-nil a }

  pub front_of_none : (a : Option (List ℕ)) (s : Parts) (queries : List Query) (first : ℕ) → AnsweredFront written a a s queries first
  front_of_none a s queries first = record {
    answers = [];
    right = tt;
    front = record { gained = []; missing = []; appends = Appends-nil a; whole = refl };
  }

  -- More answers were written.
  answered_more : (a b c : Option (List ℕ)) (s : Parts) (qs rs : List Query) (first next : ℕ) (u v : Bool)
      → Answered written a b s qs first u → next ≡ first + length qs → Answered written b c s rs next v → Answered written a c s (qs ++ rs) first (u || v)
  answered_more a b c s qs rs first next u v so_far is_next more =
      let at : first + length so_far.answers ≡ next = omega (arith, so_far.each, is_next) in record {
        answers = so_far.answers ++ more.answers;
        right = AllRight-append s qs rs so_far.answers more.answers so_far.right so_far.each more.right;
        each = length-append so_far.answers more.answers ∙ omega (arith, so_far.each, more.each, length-append qs rs);
        unknown_is = has_unknown-append so_far.answers more.answers ∙ cc (so_far.unknown_is, more.unknown_is);
        appends = subst (Appends a c)
            (sym (texts-append first so_far.answers more.answers ∙ ap (λ (k : ℕ). texts written first so_far.answers ++ texts written k more.answers) at))
            (Appends-trans a b c _ _ so_far.appends more.appends);
      }

  front_more : (a b c : Option (List ℕ)) (s : Parts) (qs rs more : List Query) (first next : ℕ) (u : Bool)
      → Answered written a b s qs first u → next ≡ first + length qs → AnsweredFront written b c s rs next → AnsweredFront written a c s (qs ++ rs ++ more) first
  front_more a b c s qs rs more first next u so_far is_next front =
      let at : first + length so_far.answers ≡ next = omega (arith, so_far.each, is_next) in record {
        answers = so_far.answers ++ front.answers;
        right = AllRight-more s (qs ++ rs) more (so_far.answers ++ front.answers)
            (AllRight-append s qs rs so_far.answers front.answers so_far.right so_far.each front.right);
        front = subst (GainsFront a c)
            (sym (texts-append first so_far.answers front.answers ∙ ap (λ (k : ℕ). texts written first so_far.answers ++ texts written k front.answers) at))
            (front_after a b c _ _ so_far.appends front.front);
      }

  -- The answer to the next query was written.
  pub answered_next : (a b c : Option (List ℕ)) (s : Parts) (queries : List Query) (q : Query) (done next : ℕ) (u v : Bool)
      → done < length queries → q ≡ get_or queries done q → next ≡ done + 1
      → Answered written a b s (take done queries) 1 u → Answered written b c s (q ∷ []) next v → Answered written a c s (take (done + 1) queries) 1 (u || v)
  answered_next a b c s queries q done next u v less is is_next so_far one =
      subst (λ (l : List Query). Answered written a c s l 1 (u || v)) (one_more queries done q less is)
      (answered_more a b c s (take done queries) (q ∷ []) 1 next u v so_far (after_first queries done next less is_next) one)

  -- A prefix of the answer to the next query was written.
  pub front_next : (a b c : Option (List ℕ)) (s : Parts) (queries : List Query) (q : Query) (done next : ℕ) (u : Bool)
      → done < length queries → q ≡ get_or queries done q → next ≡ done + 1
      → Answered written a b s (take done queries) 1 u → AnsweredFront written b c s (q ∷ []) next → AnsweredFront written a c s queries 1
  front_next a b c s queries q done next u less is is_next so_far front =
      let all : take done queries ++ q ∷ [] ++ drop (done + 1) queries ≡ queries =
      ap (λ (l : List Query). l ++ drop (done + 1) queries) (one_more queries done q less is) ∙ take-append-drop (done + 1) queries in
      subst (λ (l : List Query). AnsweredFront written a c s l 1) all
      (front_more a b c s (take done queries) (q ∷ []) (drop (done + 1) queries) 1 next u so_far (after_first queries done next less is_next) front)

  -- ---- up to the end line

  -- The answers to all queries and the end line were written.
  pub answered_to_end : (a b c : Option (List ℕ)) (s : Parts) (u : Bool) → Answered written a b s s.queries 1 u → Appends b c end_line → AnsweredToEnd written a c s u
  answered_to_end a b c s u answered last = record {
    answers = answered.answers;
    right = answered.right;
    each = answered.each;
    unknown_is = answered.unknown_is;
    appends = Appends-trans a b c _ _ answered.appends last;
  }

  -- A prefix of the answers was written.
  pub short_in_answers : (a b : Option (List ℕ)) (s : Parts) → AnsweredFront written a b s s.queries 1 → AnsweredShort written a b s
  short_in_answers a b s more = record {
    answers = more.answers;
    ending = [];
    right = more.right;
    ending_is = inl refl;
    front = subst (GainsFront a b) (sym (append-nil (texts written 1 more.answers))) more.front;
  }

  -- The answers to all queries, and a prefix of the end line, were written.
  pub short_at_end : (a b c : Option (List ℕ)) (s : Parts) (u : Bool) → Answered written a b s s.queries 1 u → GainsFront b c end_line → AnsweredShort written a c s
  short_at_end a b c s u answered more = record {
    answers = answered.answers;
    ending = end_line;
    right = answered.right;
    ending_is = inr (refl, answered.each);
    front = front_after a b c _ _ answered.appends more;
  }

-- ---- an output: the header, and the answers up to the end line

-- Nothing was written.
pub cut_at_start : (a : Option (List ℕ)) (bytes : List ℕ) (s : Parts) → CutShort a a bytes s
cut_at_start a bytes s = record {
  answers = [];
  ending = [];
  right = tt;
  ending_is = inl refl;
  front = record { gained = []; missing = header bytes ++ [] ++ []; appends = Appends-nil a; whole = refl };
}

pub cut_in_header : (a b : Option (List ℕ)) (bytes : List ℕ) (s : Parts) (text : List ℕ)
    → text ≡ header bytes → GainsFront a b text → CutShort a b bytes s
cut_in_header a b bytes s text is front = record {
  answers = [];
  ending = [];
  right = tt;
  ending_is = inl refl;
  front = subst (GainsFront a b) (is ∙ sym (append-nil (header bytes)) ∙ sym (append-nil (header bytes ++ []))) front;
}

-- The header and all that follows it were written.
pub whole_output : (a b c : Option (List ℕ)) (bytes : List ℕ) (s : Parts) (text : List ℕ) (r : Result Bool RunFault)
    → text ≡ header bytes → Appends a b text → IfOk r (λ u. AnsweredToEnd answer_text b c s u) → IfOk r (λ u. WholeOutput a c bytes s u)
whole_output a b c bytes s text (Ok u) is before lines = record {
  answers = lines.answers;
  right = lines.right;
  each = lines.each;
  unknown_is = lines.unknown_is;
  appends = subst (Appends a c) (sym (append_assoc (header bytes) (texts answer_text 1 lines.answers) end_line))
      (Appends-trans a b c _ _ (subst (Appends a b) is before) lines.appends);
}
whole_output a b c bytes s text (Err e) is before lines = tt

-- The header and a prefix of what follows it were written.
pub cut_in_answers : (a b c : Option (List ℕ)) (bytes : List ℕ) (s : Parts) (text : List ℕ) (r : Result Bool RunFault)
    → text ≡ header bytes → Appends a b text → OnErr r (AnsweredShort answer_text b c s) → OnErr r (CutShort a c bytes s)
cut_in_answers a b c bytes s text (Ok u) is before lines = tt
cut_in_answers a b c bytes s text (Err e) is before lines = record {
  answers = lines.answers;
  ending = lines.ending;
  right = lines.right;
  ending_is = lines.ending_is;
  front = subst (GainsFront a c) (sym (append_assoc (header bytes) (texts answer_text 1 lines.answers) lines.ending))
      (front_after a b c _ _ (subst (Appends a b) is before) lines.front);
}
