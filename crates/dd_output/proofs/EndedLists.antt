-- The laws of the lists of a step. Each of these lists ends with a 0.
use Rattle.std.proofs.Common.{◌≡◌, ℕ, suc, ◌^◌, ◌<◌, ◌≤◌, List, [], ◌∷◌, ◌++◌, length, length-append, Bool, true, false, ◌⊎◌, inl, inr, refl, sym, ap, ◌∙◌, append_assoc, arith}
use Rattle.std.proofs.lemmas.{Bool.ne_eqb, Fmt.decimal_digit, List.Concat.flat_map-cons}
use Rattle.std.proofs.lemmas.List.Elements.{All-from_recursion, recursion_from_All}
use Rattle.std.specs.{Prelude.◌==◌, Prelude.All, Fmt.decimal, List.flat_map, List.AllByRecursion}
use Rattle.dd_clause.specs.{declared.clause.Literal.Literal, Clauses.IsLiteralInRange}
use Rattle.dd_output.specs.reading.Stops.{Read, before, word_at, number_at, after_at, map_at, Entry, item, last, entries_at}
use Rattle.dd_output.specs.reading.Forms.{Form, nothing}
use Rattle.dd_output.specs.reading.Lists.{variable_at, literal_entry, number_entry, positive_of, negative_of, entry_of, ended, items_of, literals, numbers_until}
use Rattle.dd_certificate.specs.Text.{literal_text, spaced_literal, spaced, literals_to_zero, numbers_to_zero}
use Rattle.dd_certificate.specs.Bounds.{most_count, IsWritableHint}
use Rattle.dd_values.specs.Bounds.{most_variables}
use Rattle.dd_output.proofs.Readers.{Reads, before_reads, map_reads, same_reads, choice_reads}
use Rattle.dd_output.proofs.{Tokens.word_reads, Tokens.after_reads, Numbers.IsEnd, Numbers.number_reads}
use Rattle.dd_output.proofs.Entries.{entries_text, AllFrom, entry_fits, entry_text, entries_reads, unrolls}
use Rattle.dd_output.proofs.{Loops.Unrolls, Signs.FirstDigit, Signs.first_digit, Forms.only, Forms.Good, Forms.good_same}

the_end : (end other : ℕ) → IsEnd end other end
the_end end other = inl refl

-- the completed texts of a list from index k on: any number of items and an end, each of which fits its index
abbrev pub IsList : {A B : Type 0} → (ℕ → A → Type 0) → (ℕ → A → List ℕ) → (ℕ → B → Type 0) → (ℕ → B → List ℕ) → ℕ → List ℕ → Type 0
IsList {A} {B} F t G u k text = (xs : List A) × (y : B) × AllFrom F G k xs y × (text ≡ entries_text t u k xs y)

pub list_more : {A B : Type 0} (F : ℕ → A → Type 0) (t : ℕ → A → List ℕ) (G : ℕ → B → Type 0) (u : ℕ → B → List ℕ) (k : ℕ) (x : A) (text : List ℕ)
    → F k x → IsList F t G u (suc k) text → IsList F t G u k (t k x ++ text)
list_more F t G u k x text good rest = (x ∷ rest.0, rest.1, (good, rest.2), ap (λ (l : List ℕ). t k x ++ l) rest.3)

-- the text of a list that ends with a fixed text u: the texts of its items, and then u
pub entries_flat : {A : Type 0} (t : A → List ℕ) (u : List ℕ) (k : ℕ) (xs : List A) (y : Unit {0}) → entries_text (λ _. t) (λ _ _. u) k xs y ≡ flat_map t xs ++ u
entries_flat t u k [] y = refl
entries_flat t u k (x ∷ xs) y = rw (flat_map-cons t x xs, entries_flat t u (suc k) xs y) (sym (append_assoc (t x) (flat_map t xs) u))

pub fits_flat : {A : Type 0} (F : A → Type 0) (k : ℕ) (xs : List A) (y : Unit {0}) → AllFrom (λ _. F) (λ _ _. Unit {0}) k xs y → AllByRecursion F xs
fits_flat F k [] y good = tt
fits_flat F k (x ∷ xs) y good = (good.0, fits_flat F (suc k) xs y good.1)

pub flat_fits : {A : Type 0} (F : A → Type 0) (k : ℕ) (xs : List A) (y : Unit {0}) → AllByRecursion F xs → AllFrom (λ _. F) (λ _ _. Unit {0}) k xs y
flat_fits F k [] y good = tt
flat_fits F k (x ∷ xs) y good = (good.0, flat_fits F (suc k) xs y good.1)

-- the law of a variable or a hint with the space after it; each completed text is such a number and a space
number_list : (low bound : ℕ) → low ≤ 1 → low ≤ bound → bound < 2 ^ 64
    → Reads (λ p. (low ≤ p.0) × (p.0 ≤ bound) × IsEnd 32 32 p.1) (λ p. decimal p.0 ++ p.1 ∷ [])
    (λ text. (n : ℕ) × (low ≤ n) × (n ≤ bound) × (text ≡ decimal n ++ 32 ∷ [])) (number_at low bound 32 32 nothing)
number_list low bound small some fits =
    number_reads low bound 32 32 nothing small some fits refl refl (λ text. (n : ℕ) × (low ≤ n) × (n ≤ bound) × (text ≡ decimal n ++ 32 ∷ []))
    (λ m least most. (m, least, most, refl))

-- ---- hints and deletes

abbrev no_item : {A : Type 0} → Entry A (Unit {0}) → Type 0
no_item (item x) = ⊥
no_item (last y) = Unit {0}

abbrev is_item : {A : Type 0} → (A → Type 0) → Entry A (Unit {0}) → Type 0
is_item F (item x) = F x
is_item F (last y) = ⊥

abbrev anything : {B : Type 0} → ℕ → B → Type 0
anything k y = Unit {0}

abbrev hint_end : ℕ → ℕ → Unit {0} → List ℕ
hint_end end k y = 48 ∷ end ∷ []

abbrev Hints : ℕ → ℕ → List ℕ → Type 0
Hints end = IsList {B = Unit {0}} (λ _. IsWritableHint) (λ _. spaced) anything (hint_end end)

abbrev hint_text : ℕ → ℕ → Entry ℕ (Unit {0}) → List ℕ
hint_text end = entry_text {B = Unit {0}} (λ _. spaced) (hint_end end)

abbrev Followed : ℕ → ℕ → ℕ × ℕ → Type 0
Followed low bound p = (low ≤ p.0) × (p.0 ≤ bound) × IsEnd 32 32 p.1

abbrev followed_text : ℕ × ℕ → List ℕ
followed_text p = decimal p.0 ++ p.1 ∷ []

item_from : (end k : ℕ) (e : Entry ℕ (Unit {0})) → is_item IsWritableHint e
    → (x : ℕ × ℕ) × (hint_text end k e ≡ followed_text x) × Followed 1 most_count x × (entry_of x ≡ e)
item_from end k (item n) good = ((n, 32), refl, (good.0, good.1, the_end 32 32), refl)
item_from end k (last y) good = elim good [ ]

last_from : (end k : ℕ) (e : Entry ℕ (Unit {0})) → no_item e → (x : Unit {0}) × (hint_text end k e ≡ 48 ∷ end ∷ []) × Unit {0} × (ended x ≡ e)
last_from end k (item n) good = elim good [ ]
last_from end k (last y) good = (tt, refl, tt, refl)

hint_first : (end k : ℕ) (e : Entry ℕ (Unit {0})) → no_item e → (more : List ℕ) × (hint_text end k e ≡ 48 ∷ more)
hint_first end k (item n) good = elim good [ ]
hint_first end k (last y) good = (end ∷ [], refl)

hint_second : (end k : ℕ) (e : Entry ℕ (Unit {0})) → is_item IsWritableHint e → (b : ℕ) × (more : List ℕ) × (hint_text end k e ≡ b ∷ more) × ((b == 48) ≡ false)
hint_second end k (item n) good =
    let f = first_digit n 1 (omega (arith, good.1)) (omega arith) good.0 in
    (f.first, f.more ++ 32 ∷ [], ap (λ (l : List ℕ). l ++ 32 ∷ []) f.is, ne_eqb f.first 48 (λ e. omega (arith, e, f.low)))
hint_second end k (last y) good = elim good [ ]

hint_fits : (e : Entry ℕ (Unit {0})) → no_item e ⊎ is_item IsWritableHint e → entry_fits {B = Unit {0}} (λ _. IsWritableHint) anything 0 e
hint_fits (item n) (inl bad) = elim bad [ ]
hint_fits (item n) (inr good) = good
hint_fits (last y) good = tt

fits_hint : (e : Entry ℕ (Unit {0})) → entry_fits {B = Unit {0}} (λ _. IsWritableHint) anything 0 e → no_item e ⊎ is_item IsWritableHint e
fits_hint (item n) good = inr good
fits_hint (last y) good = inl tt

fits_same : {A : Type 0} (F : A → Type 0) (k : ℕ) (e : Entry A (Unit {0})) → entry_fits {B = Unit {0}} (λ _. F) anything 0 e → entry_fits {B = Unit {0}} (λ _. F) anything k e
fits_same F k (item n) good = good
fits_same F k (last y) good = good

same_fits : {A : Type 0} (F : A → Type 0) (k : ℕ) (e : Entry A (Unit {0})) → entry_fits {B = Unit {0}} (λ _. F) anything k e → entry_fits {B = Unit {0}} (λ _. F) anything 0 e
same_fits F k (item n) good = good
same_fits F k (last y) good = good

pub number_entry_reads : (end k : ℕ) → Reads (entry_fits {B = Unit {0}} (λ _. IsWritableHint) anything k) (hint_text end k) (Hints end k) (number_entry end)
number_entry_reads end k =
    let one : List ℕ → Read (ℕ × ℕ) = λ bytes. before (48 ∷ end ∷ []) (number_at 1 most_count 32 32 nothing bytes) in
    let plain : Reads (Followed 1 most_count) followed_text (Hints end k) one =
    before_reads _ _ _ (Hints end k) (number_at 1 most_count 32 32 nothing) (48 ∷ end ∷ []) (number_list 1 most_count (omega arith) (omega arith) (omega arith))
    (λ text good. (good.0 ∷ [], tt, ((good.1, good.2), tt), ap (λ (l : List ℕ). l ++ 48 ∷ end ∷ []) good.3)) in
    let items : Reads (is_item IsWritableHint) (hint_text end k) (Hints end k) (map_at entry_of one) =
    map_reads (Followed 1 most_count) followed_text (Hints end k) one (is_item IsWritableHint) (hint_text end k) entry_of plain
    (λ p good. (ap (λ e. decimal p.0 ++ e ∷ []) (sym (only 32 p.1 good.2)), (good.0, good.1)))
    (item_from end k) in
    let word : Reads (λ _. Unit {0}) (λ _. 48 ∷ end ∷ []) (Hints end k) (word_at (48 ∷ end ∷ [])) =
    same_reads _ _ _ _ _ _ (Hints end k) (word_reads (48 ∷ end ∷ [])) (λ x good. (refl, tt)) (λ x good. (refl, tt)) (λ text good. ([], tt, tt, good)) in
    let ends : Reads no_item (hint_text end k) (Hints end k) (map_at ended (word_at (48 ∷ end ∷ []))) =
    map_reads (λ _. Unit {0}) (λ _. 48 ∷ end ∷ []) (Hints end k) (word_at (48 ∷ end ∷ [])) no_item (hint_text end k) ended word
    (λ x good. (refl, tt)) (last_from end k) in
    same_reads (λ x. no_item x ⊎ is_item IsWritableHint x) (hint_text end k) (Hints end k) (number_entry end)
    (entry_fits {B = Unit {0}} (λ _. IsWritableHint) anything k) (hint_text end k) (Hints end k)
    (choice_reads no_item (is_item IsWritableHint) (hint_text end k) (Hints end k) 48 (map_at ended (word_at (48 ∷ end ∷ []))) (map_at entry_of one) ends items (hint_first end k) (hint_second end k))
    (λ x good. (refl, fits_same IsWritableHint k x (hint_fits x good)))
    (λ x good. (refl, fits_hint x (same_fits IsWritableHint k x good)))
    (λ text good. good)

-- the law of a whole list that ends with a fixed text
pub flat_reads : {A : Type 0} (F : A → Type 0) (t : A → List ℕ) (u : List ℕ) (entry : List ℕ → Read (Entry A (Unit {0})))
    → ((k : ℕ) → Reads (entry_fits {B = Unit {0}} (λ _. F) anything k) (entry_text {B = Unit {0}} (λ _. t) (λ _ _. u) k) (IsList {B = Unit {0}} (λ _. F) (λ _. t) anything (λ _ _. u) k) entry)
    → ((x : A) → F x → 0 < length (t x))
    → Reads (AllByRecursion F) (λ xs. flat_map t xs ++ u) (λ text. (xs : List A) × AllByRecursion F xs × (text ≡ flat_map t xs ++ u)) (map_at items_of (entries_at (λ _. entry) 0))
flat_reads {A} F t u entry law some =
    let C : ℕ → List ℕ → Type 0 = IsList {B = Unit {0}} (λ _. F) (λ _. t) anything (λ _ _. u) in
    let D : List ℕ → Type 0 = λ text. (xs : List A) × AllByRecursion F xs × (text ≡ flat_map t xs ++ u) in
    let whole = entries_reads (λ _. F) (λ _. t) anything (λ _ _. u) C (λ _. entry) law (λ k x good. some x good) (λ k x text good rest. list_more (λ _. F) (λ _. t) anything (λ _ _. u) k x text good rest) 0 in
    map_reads (λ x. AllFrom (λ _. F) anything 0 x.0 x.1) (λ x. entries_text (λ _. t) (λ _ _. u) 0 x.0 x.1) D (entries_at (λ _. entry) 0)
    (AllByRecursion F) (λ xs. flat_map t xs ++ u) items_of
    (same_reads _ _ (C 0) _ _ _ D whole (λ x good. (refl, good)) (λ x good. (refl, good))
    (λ text good. (good.0, fits_flat F 0 good.0 good.1 good.2, good.3 ∙ entries_flat t u 0 good.0 good.1)))
    (λ x good. (sym (entries_flat t u 0 x.0 x.1), fits_flat F 0 x.0 x.1 good))
    (λ xs good. ((xs, tt), sym (entries_flat t u 0 xs tt), flat_fits F 0 xs tt good, refl))

hint_some : (n : ℕ) → IsWritableHint n → 0 < length (spaced n)
hint_some n good = omega (arith, length-append (decimal n) (32 ∷ []))

-- a form for lists that end with a fixed text is good if its reader has the law of `flat_reads` and this text is its least text
flat_good : {A : Type 0} (F : A → Type 0) (t : A → List ℕ) (u : List ℕ) (f : Form (List A)) → f.least ≡ u
    → Reads (AllByRecursion F) (λ xs. flat_map t xs ++ u) (λ text. (xs : List A) × AllByRecursion F xs × (text ≡ flat_map t xs ++ u)) f.read
    → Good (All F) (λ xs. flat_map t xs ++ u) f
flat_good {A} F t u f is law =
    good_same (AllByRecursion F) (λ xs. flat_map t xs ++ u) f (All F) (λ xs. flat_map t xs ++ u)
    (record { law = law; value = []; fits = tt; is = is })
    (λ xs good. (refl, All-from_recursion F xs good)) (λ xs good. (refl, recursion_from_All F xs good))

pub numbers_until_good : (end : ℕ) → Good (All IsWritableHint) (numbers_to_zero end) (numbers_until end)
numbers_until_good end =
    flat_good IsWritableHint spaced (48 ∷ end ∷ []) (numbers_until end) refl (flat_reads IsWritableHint spaced (48 ∷ end ∷ []) (number_entry end) (number_entry_reads end) hint_some)

pub flat_unrolls : {A : Type 0} (F : A → Type 0) (t : A → List ℕ) (u : List ℕ) (entry : List ℕ → Read (Entry A (Unit {0})))
    → ((k : ℕ) → Reads (entry_fits {B = Unit {0}} (λ _. F) anything k) (entry_text {B = Unit {0}} (λ _. t) (λ _ _. u) k) (IsList {B = Unit {0}} (λ _. F) (λ _. t) anything (λ _ _. u) k) entry)
    → ((x : A) → F x → 0 < length (t x)) → Unrolls (λ _. entry)
flat_unrolls F t u entry law some =
    let C : ℕ → List ℕ → Type 0 = IsList {B = Unit {0}} (λ _. F) (λ _. t) anything (λ _ _. u) in
    unrolls (λ _. F) (λ _. t) anything (λ _ _. u) C (λ _. entry) law (λ k x good. some x good) (λ k x text good rest. list_more (λ _. F) (λ _. t) anything (λ _ _. u) k x text good rest)

pub hint_unrolls : (end : ℕ) → Unrolls (λ _. number_entry end)
hint_unrolls end = flat_unrolls IsWritableHint spaced (48 ∷ end ∷ []) (number_entry end) (number_entry_reads end) hint_some

-- ---- literals

abbrev literal_end : ℕ → Unit {0} → List ℕ
literal_end k y = 48 ∷ 32 ∷ []

abbrev Literals : ℕ → List ℕ → Type 0
Literals = IsList {B = Unit {0}} (λ _. (IsLiteralInRange most_variables)) (λ _. spaced_literal) anything literal_end

abbrev entry_literal : ℕ → Entry Literal (Unit {0}) → List ℕ
entry_literal = entry_text {B = Unit {0}} (λ _. spaced_literal) literal_end

abbrev is_signed : Bool → Entry Literal (Unit {0}) → Type 0
is_signed sign (item l) = (l.positive ≡ sign) × (IsLiteralInRange most_variables) l
is_signed sign (last y) = ⊥

abbrev is_literal : Entry Literal (Unit {0}) → Type 0
is_literal e = is_signed false e ⊎ is_signed true e

abbrev minus_text : ℕ × ℕ → List ℕ
minus_text p = 45 ∷ [] ++ followed_text p

abbrev literal_with : Bool → Literal → Literal
literal_with sign l = record { variable = l.variable; positive = sign }

negative_from : (k : ℕ) (e : Entry Literal (Unit {0})) → is_signed false e
    → (x : ℕ × ℕ) × (entry_literal k e ≡ minus_text x) × Followed 1 most_variables x × (negative_of x ≡ e)
negative_from k (item l) good =
    ((l.variable, 32), rw good.0 refl, (good.1.0, good.1.1, the_end 32 32), ap (λ (sign : Bool). item (literal_with sign l)) (sym good.0))
negative_from k (last y) good = elim good [ ]

positive_from : (k : ℕ) (e : Entry Literal (Unit {0})) → is_signed true e
    → (x : ℕ × ℕ) × (entry_literal k e ≡ followed_text x) × Followed 1 most_variables x × (positive_of x ≡ e)
positive_from k (item l) good =
    ((l.variable, 32), rw good.0 refl, (good.1.0, good.1.1, the_end 32 32), ap (λ (sign : Bool). item (literal_with sign l)) (sym good.0))
positive_from k (last y) good = elim good [ ]

literal_last : (k : ℕ) (e : Entry Literal (Unit {0})) → no_item e → (x : Unit {0}) × (entry_literal k e ≡ 48 ∷ 32 ∷ []) × Unit {0} × (ended x ≡ e)
literal_last k (item n) good = elim good [ ]
literal_last k (last y) good = (tt, refl, tt, refl)

literal_zero : (k : ℕ) (e : Entry Literal (Unit {0})) → no_item e → (more : List ℕ) × (entry_literal k e ≡ 48 ∷ more)
literal_zero k (item n) good = elim good [ ]
literal_zero k (last y) good = (32 ∷ [], refl)

negative_minus : (k : ℕ) (e : Entry Literal (Unit {0})) → is_signed false e → (more : List ℕ) × (entry_literal k e ≡ 45 ∷ more)
negative_minus k (item l) good = (decimal l.variable ++ 32 ∷ [], rw good.0 refl)
negative_minus k (last y) good = elim good [ ]

positive_digit : (k : ℕ) (e : Entry Literal (Unit {0})) → is_signed true e → FirstDigit 49 (entry_literal k e)
positive_digit k (item l) good =
    let f = first_digit l.variable 1 (omega (arith, good.1.1)) (omega arith) good.1.0 in
    record { first = f.first; more = f.more ++ 32 ∷ []; is = rw good.0 (ap (λ (x : List ℕ). x ++ 32 ∷ []) f.is); low = f.low; high = f.high }
positive_digit k (last y) good = elim good [ ]

positive_not_minus : (k : ℕ) (e : Entry Literal (Unit {0})) → is_signed true e → (b : ℕ) × (more : List ℕ) × (entry_literal k e ≡ b ∷ more) × ((b == 45) ≡ false)
positive_not_minus k e good =
    let f = positive_digit k e good in
    (f.first, f.more, f.is, ne_eqb f.first 45 (λ e. omega (arith, e, f.low)))

literal_not_zero : (k : ℕ) (e : Entry Literal (Unit {0})) → is_literal e → (b : ℕ) × (more : List ℕ) × (entry_literal k e ≡ b ∷ more) × ((b == 48) ≡ false)
literal_not_zero k e (inl good) =
    let f = negative_minus k e good in
    (45, f.0, f.1, refl)
literal_not_zero k e (inr good) =
    let f = positive_digit k e good in
    (f.first, f.more, f.is, ne_eqb f.first 48 (λ e. omega (arith, e, f.low)))

by_sign : (l : Literal) → (IsLiteralInRange most_variables) l → (sign : Bool) → l.positive ≡ sign → is_literal (item l)
by_sign l good true is = inr (is, good)
by_sign l good false is = inl (is, good)

fits_literal : (k : ℕ) (e : Entry Literal (Unit {0})) → entry_fits {B = Unit {0}} (λ _. (IsLiteralInRange most_variables)) anything k e → no_item e ⊎ is_literal e
fits_literal k (item l) good = inr (by_sign l good l.positive refl)
fits_literal k (last y) good = inl tt

literal_fits : (k : ℕ) (e : Entry Literal (Unit {0})) → no_item e ⊎ is_literal e → entry_fits {B = Unit {0}} (λ _. (IsLiteralInRange most_variables)) anything k e
literal_fits k (item l) (inl bad) = elim bad [ ]
literal_fits k (item l) (inr (inl good)) = good.1
literal_fits k (item l) (inr (inr good)) = good.1
literal_fits k (last y) good = tt

a_literal : (k n : ℕ) (sign : Bool) (text : List ℕ) → 1 ≤ n → n ≤ most_variables → text ≡ spaced_literal (record { variable = n; positive = sign }) ++ 48 ∷ 32 ∷ [] → Literals k text
a_literal k n sign text some most is = (record { variable = n; positive = sign } ∷ [], tt, ((some, most), tt), is)

pub literal_entry_reads : (k : ℕ) → Reads (entry_fits {B = Unit {0}} (λ _. (IsLiteralInRange most_variables)) anything k) (entry_literal k) (Literals k) literal_entry
literal_entry_reads k =
    let number : Reads (Followed 1 most_variables) followed_text (λ text. (n : ℕ) × (1 ≤ n) × (n ≤ most_variables) × (text ≡ decimal n ++ 32 ∷ [])) (number_at 1 most_variables 32 32 nothing) =
    number_list 1 most_variables (omega arith) (omega arith) (omega arith) in
    let variable : Reads (Followed 1 most_variables) followed_text (Literals k) variable_at =
    before_reads _ _ _ (Literals k) (number_at 1 most_variables 32 32 nothing) (48 ∷ 32 ∷ []) number
    (λ text good. a_literal k good.0 true (text ++ 48 ∷ 32 ∷ []) good.1 good.2 (ap (λ (l : List ℕ). l ++ 48 ∷ 32 ∷ []) good.3)) in
    let bare : Reads (Followed 1 most_variables) followed_text (λ text. (n : ℕ) × (1 ≤ n) × (n ≤ most_variables) × (text ≡ (decimal n ++ 32 ∷ []) ++ 48 ∷ 32 ∷ [])) variable_at =
    before_reads _ _ _ _ (number_at 1 most_variables 32 32 nothing) (48 ∷ 32 ∷ []) number
    (λ text good. (good.0, good.1, good.2, ap (λ (l : List ℕ). l ++ 48 ∷ 32 ∷ []) good.3)) in
    let minus : Reads (Followed 1 most_variables) minus_text (Literals k) (after_at (45 ∷ []) (49 ∷ 32 ∷ 48 ∷ 32 ∷ []) variable_at) =
    after_reads (Followed 1 most_variables) followed_text _ (Literals k) variable_at (45 ∷ []) (49 ∷ 32 ∷ 48 ∷ 32 ∷ []) bare
    (a_literal k 1 false _ (omega arith) (omega arith) (rw (decimal_digit 1 (omega arith)) refl))
    (λ text good. a_literal k good.0 false _ good.1 good.2 (ap (λ (l : List ℕ). 45 ∷ l) good.3)) in
    let negatives : Reads (is_signed false) (entry_literal k) (Literals k) (map_at negative_of (after_at (45 ∷ []) (49 ∷ 32 ∷ 48 ∷ 32 ∷ []) variable_at)) =
    map_reads (Followed 1 most_variables) minus_text (Literals k) (after_at (45 ∷ []) (49 ∷ 32 ∷ 48 ∷ 32 ∷ []) variable_at) (is_signed false) (entry_literal k) negative_of minus
    (λ p good. (ap (λ e. 45 ∷ (decimal p.0 ++ e ∷ [])) (sym (only 32 p.1 good.2)), (refl, (good.0, good.1))))
    (negative_from k) in
    let positives : Reads (is_signed true) (entry_literal k) (Literals k) (map_at positive_of variable_at) =
    map_reads (Followed 1 most_variables) followed_text (Literals k) variable_at (is_signed true) (entry_literal k) positive_of variable
    (λ p good. (ap (λ e. decimal p.0 ++ e ∷ []) (sym (only 32 p.1 good.2)), (refl, (good.0, good.1))))
    (positive_from k) in
    let word : Reads (λ _. Unit {0}) (λ _. 48 ∷ 32 ∷ []) (Literals k) (word_at (48 ∷ 32 ∷ [])) =
    same_reads _ _ _ _ _ _ (Literals k) (word_reads (48 ∷ 32 ∷ [])) (λ x good. (refl, tt)) (λ x good. (refl, tt)) (λ text good. ([], tt, tt, good)) in
    let ends : Reads no_item (entry_literal k) (Literals k) (map_at ended (word_at (48 ∷ 32 ∷ []))) =
    map_reads (λ _. Unit {0}) (λ _. 48 ∷ 32 ∷ []) (Literals k) (word_at (48 ∷ 32 ∷ [])) no_item (entry_literal k) ended word
    (λ x good. (refl, tt)) (literal_last k) in
    same_reads (λ x. no_item x ⊎ is_literal x) (entry_literal k) (Literals k) literal_entry
    (entry_fits {B = Unit {0}} (λ _. (IsLiteralInRange most_variables)) anything k) (entry_literal k) (Literals k)
    (choice_reads no_item is_literal (entry_literal k) (Literals k) 48 (map_at ended (word_at (48 ∷ 32 ∷ []))) _ ends
    (choice_reads (is_signed false) (is_signed true) (entry_literal k) (Literals k) 45 _ (map_at positive_of variable_at) negatives positives (negative_minus k) (positive_not_minus k))
    (literal_zero k) (literal_not_zero k))
    (λ x good. (refl, literal_fits k x good))
    (λ x good. (refl, fits_literal k x good))
    (λ text good. good)

literal_some : (l : Literal) → (IsLiteralInRange most_variables) l → 0 < length (spaced_literal l)
literal_some l good = omega (arith, length-append (literal_text l) (32 ∷ []))

pub literals_good : Good (All (IsLiteralInRange most_variables)) literals_to_zero literals
literals_good =
    flat_good (IsLiteralInRange most_variables) spaced_literal (48 ∷ 32 ∷ []) literals refl
    (flat_reads (IsLiteralInRange most_variables) spaced_literal (48 ∷ 32 ∷ []) literal_entry literal_entry_reads literal_some)

pub literal_unrolls : Unrolls (λ _. literal_entry)
literal_unrolls = flat_unrolls (IsLiteralInRange most_variables) spaced_literal (48 ∷ 32 ∷ []) literal_entry literal_entry_reads literal_some
