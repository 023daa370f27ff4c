-- The property `Reads`: the reader of a form reads exactly what is written in that form. Lemmas say when this property carries over from forms to
-- their combinations.
use Rattle.std.proofs.Common.{◌≡◌, ℕ, ◌≤◌, ◌<◌, List, [], ◌∷◌, ◌++◌, length, Option, Some, None, refl, sym, ap, ◌∙◌, arith, Bool, true, if◌then◌else◌, is_some, nat_le, flat_map, eqb-true, eq-eqb, leb-true, le-leb, length-append}
use Rattle.std.proofs.lemmas.{Option.cond_some, Option.some_pair_parts}
use Rattle.dd_commands.specs.Tree.{Lexeme}
pub use Rattle.dd_written.specs.lemmas.Options.{bind_some, some_is, nothing_some, chosen}
use Rattle.dd_written.specs.lemmas.Many.{many_sound, many_again, few_items, ByText, texts_read, texts_stand}
use Rattle.dd_commands.specs.reading.Forms.{◌>>=◌, Reader, ReadsAll, Form, by_text, made, both, ◌▸◌, tested, such, at_most, each, some, exactly, alone}

-- the reader of a form reads exactly what is written in it
pub record Reads {X : Type 0} (f : Form X) : Type 0 where
  -- an item that was read has this form, and the tokens are its text and the rest
  pub written : (tokens : List Lexeme) (x : X) (rest : List Lexeme) → f.item tokens ≡ Some (x, rest) → f.is x × (tokens ≡ f.onto x rest)
  -- an item of this form, written before tokens that may follow it, is read
  pub read : (x : X) (rest : List Lexeme) → f.is x → f.ends rest → f.item (f.onto x rest) ≡ Some (x, rest)
  -- an item may come last: no token needs to follow it
  pub last : f.ends []

-- an item is read from its text if nothing follows
pub read_last : {X : Type 0} {f : Form X} → Reads f → (x : X) (tokens : List Lexeme) → f.is x → tokens ≡ f.onto x [] → f.item tokens ≡ Some (x, [])
read_last is x tokens right e = rw e (is.read x [] right is.last)

-- ---- combined readers

pub alone_is : {X : Type 0} (x : X) (rest : List Lexeme) (y : X) → alone x rest ≡ Some y → (x ≡ y) × (rest ≡ [])
alone_is x [] y e = (some_is _ _ e, refl)
alone_is x (t ∷ rest) y e = absurd cc

pub made_is : {X Y : Type 0} (make : X → Y) (item : Reader X) (tokens : List Lexeme) (y : Y) (rest : List Lexeme) → made make item tokens ≡ Some (y, rest) → (x : X) × (item tokens ≡ Some (x, rest)) × (make x ≡ y)
made_is {X} make item tokens y rest e =
    let b = bind_some (item tokens) (λ x. Some (make x.0, x.1)) (y, rest) e in
    let same = some_pair_parts _ _ _ _ b.2 in
    (b.0.0, b.1 ∙ ap (λ (ts : List Lexeme). Some (b.0.0, ts)) same.1, same.0)

pub both_is : {X Y : Type 0} (item : Reader X) (next : Reader Y) (tokens : List Lexeme) (p : X × Y) (rest : List Lexeme) → both item next tokens ≡ Some (p, rest)
    → (between : List Lexeme) × (item tokens ≡ Some (p.0, between)) × (next between ≡ Some (p.1, rest))
both_is item next tokens p rest e =
    let a = bind_some (item tokens) (λ x. next x.1 >>= λ y. Some ((x.0, y.0), y.1)) (p, rest) e in
    let b = made_is (λ y. (a.0.0, y)) next a.0.1 p rest a.2 in
    (a.0.1, a.1 ∙ ap (λ x. Some (x, a.0.1)) (ap (λ q. q.0) b.2), b.1 ∙ ap (λ y. Some (y, rest)) (ap (λ q. q.1) b.2))

tested_is : {X : Type 0} (test : X → Bool) (item : Reader X) (tokens : List Lexeme) (x : X) (rest : List Lexeme) → tested test item tokens ≡ Some (x, rest) → (test x ≡ true) × (item tokens ≡ Some (x, rest))
tested_is {X} test item tokens x rest e =
    let b = bind_some (item tokens) (λ y. if test y.0 then Some y else None) (x, rest) e in
    let same = cond_some (test b.0.0) b.0 (x, rest) b.2 in
    (ap (λ (y : X × List Lexeme). test y.0) (sym same.1) ∙ same.0, b.1 ∙ ap (λ (y : X × List Lexeme). Some y) same.1)

-- ---- combined forms

pub then_reads : {X Y : Type 0} {f : Form X} {g : Form Y} → Reads f → ((y : Y) (rest : List Lexeme) → g.is y → f.ends (g.onto y rest)) → Reads g → Reads (f ▸ g)
then_reads {X} {Y} {f} {g} is ended are = record {
  written = λ tokens p rest e.
      let b = both_is f.item g.item tokens p rest e in
      let one = is.written tokens p.0 b.0 b.1 in
      let other = are.written b.0 p.1 rest b.2 in
      ((one.0, other.0), one.1 ∙ ap (f.onto p.0) other.1);
  read = λ p rest w end. rw (is.read p.0 (g.onto p.1 rest) w.0 (ended p.1 rest w.1), are.read p.1 rest w.1 end) refl;
  last = are.last;
}

-- Suppose that `make` makes new items from the items of a form. Each new item y is made from `parts y`, which has this form. The form writes each
-- item x as the tokens `text (make x)`, and any tokens may follow an item. Then `Reads` carries over to the form that writes each new item y as `text
-- y`.
pub text_reads : {X Y : Type 0} {f : Form X} (make : X → Y) (parts : Y → X) (text : Y → List Lexeme) → ((x : X) (rest : List Lexeme) → f.onto x rest ≡ text (make x) ++ rest) → ((y : Y) → make (parts y) ≡ y)
    → ((y : Y) → f.is (parts y)) → ((rest : List Lexeme) → f.ends rest) → Reads f → Reads (by_text text (made make f.item))
text_reads {X} {Y} {f} make parts text spelt same right free is = record {
  written = λ tokens y rest e.
      let m = made_is make f.item tokens y rest e in
      (tt, (is.written tokens m.0 rest m.1).1 ∙ spelt m.0 rest ∙ ap (λ (z : Y). text z ++ rest) m.2);
  read = λ y rest w end.
      let e : f.onto (parts y) rest ≡ text y ++ rest = spelt (parts y) rest ∙ ap (λ (z : Y). text z ++ rest) (same y) in
      rw (← e, is.read (parts y) rest (right y) (free rest), same y) refl;
  last = tt;
}

pub such_reads : {X : Type 0} {f : Form X} (P : X → Type 0) (test : X → Bool) → ((x : X) → test x ≡ true → P x) → ((x : X) → P x → test x ≡ true) → Reads f → Reads (such P test f)
such_reads {X} {f} P test holds told is = record {
  written = λ tokens x rest e. let t = tested_is test f.item tokens x rest e in let w = is.written tokens x rest t.1 in ((holds x t.0, w.0), w.1);
  read = λ x rest w ended. rw (is.read x rest w.1 ended, told x w.0) refl;
  last = is.last;
}

-- ---- items one after another

module _ {X : Type 0} (writes : X → List Lexeme → List Lexeme → Type 0) (item : Reader X) (written : (tokens : List Lexeme) (x : X) (rest : List Lexeme) → item tokens ≡ Some (x, rest) → writes x tokens rest)
    (read : (x : X) (tokens rest : List Lexeme) → writes x tokens rest → item tokens ≡ Some (x, rest)) where
  pub most_written : (n : ℕ) (tokens : List Lexeme) (xs : List X) (rest : List Lexeme) → at_most item n tokens ≡ Some (xs, rest) → ReadsAll writes xs tokens rest
  most_written = many_sound writes (λ ts. is_some (item ts)) item (λ tokens x rest there e. written tokens x rest e)

  pub most_read : (n : ℕ) (xs : List X) (tokens rest : List Lexeme) → length xs ≤ n → (length xs < n → item rest ≡ None) → ReadsAll writes xs tokens rest → at_most item n tokens ≡ Some (xs, rest)
  most_read n xs tokens rest le ended all =
      let given = λ (o : Option (X × List Lexeme)). is_some o in
      many_again writes (λ ts. is_some (item ts)) item (λ x ts more w. let e = read x ts more w in (ap given e, e)) n xs tokens rest le (λ lt. ap given (ended lt)) all

-- several items in a row, each written as the tokens that `text` gives, are read as they are written
module _ {X : Type 0} (text : X → List Lexeme) (texts : List X → List Lexeme) (item : Reader X) (same : (xs : List X) → flat_map text xs ≡ texts xs) (is : Reads (by_text text item)) where
  texts_written : (n : ℕ) (tokens : List Lexeme) (xs : List X) (rest : List Lexeme) → at_most item n tokens ≡ Some (xs, rest) → tokens ≡ texts xs ++ rest
  texts_written n tokens xs rest e = rw (← same xs) (texts_read text xs tokens rest (most_written (ByText text) item (λ ts x more f. (is.written ts x more f).1) (λ x ts more w. ap item w ∙ is.read x more tt tt) n tokens xs rest e))

  texts_again : (n : ℕ) (xs : List X) (rest : List Lexeme) → length xs ≤ n → (length xs < n → item rest ≡ None) → at_most item n (texts xs ++ rest) ≡ Some (xs, rest)
  texts_again n xs rest le ended = rw (← same xs) (most_read (ByText text) item (λ ts x more f. (is.written ts x more f).1) (λ x ts more w. ap item w ∙ is.read x more tt tt) n xs (flat_map text xs ++ rest) rest le ended (texts_stand text xs rest))

  pub exactly_reads : (n : ℕ) → Reads (exactly n texts item)
  exactly_reads n = record {
    written = λ tokens xs rest e. let t = tested_is _ (at_most item n) tokens xs rest e in (eqb-true _ _ t.0, texts_written n tokens xs rest t.1);
    read = λ xs rest w any. rw (texts_again n xs rest (omega (arith, w)) (λ lt. absurd (omega (arith, w, lt))), eq-eqb (length xs) n w) refl;
    last = tt;
  }

  module _ (long : (x : X) → 1 ≤ length (text x)) (none : item [] ≡ None) where
    shorter : (x : X) (tokens rest : List Lexeme) → tokens ≡ text x ++ rest → length rest < length tokens
    shorter x tokens rest e = omega (arith, ap length e, length-append (text x) rest, long x)

    pub each_reads : Reads (each texts item)
    each_reads = record {
      written = λ tokens xs rest e. (tt, texts_written (length tokens) tokens xs rest e);
      read = λ xs rest any ended. texts_again (length (texts xs ++ rest)) xs rest (rw (← same xs) (few_items (ByText text) shorter xs (flat_map text xs ++ rest) rest (texts_stand text xs rest))) (λ lt. ended);
      last = none;
    }

    pub some_reads : Reads (some texts item)
    some_reads = such_reads (λ xs. 1 ≤ length xs) (λ xs. nat_le 1 (length xs)) (λ xs. leb-true 1 (length xs)) (λ xs. le-leb 1 (length xs)) each_reads
