-- Chains of links. One more link changes none of the earlier chains. A clause is added to the chains of its literals, one literal after the other.
use Rattle.std.proofs.Common.{◌≡◌, ◌≢◌, ◌⊎◌, ℕ, zero, suc, ◌+◌, ◌<◌, ◌≤◌, false, get_or, take, List, [], ◌∷◌, ◌++◌, Option, Some, None, refl, sym, ◌∙◌, ap, inl, inr, length, arith, add-one}
use Rattle.std.proofs.Math.ListN.{set, replicate}
use Rattle.std.proofs.lemmas.List.{get_or-set_same, get_or-set_other, length-append}
use Rattle.std.proofs.lemmas.{List.Elements.All-set, List.Elements.All-weaker, Option.slice_get-get_or}
use Rattle.std.proofs.lemmas.{Bool.cases_Bool, Bool.false≢true, Grind.common_steps}
use Rattle.std.proofs.lemmas.List.Sums.{count_by_more_yes, count_by_more_no}
use Rattle.std.specs.{List.slice_get, List.All, Option.option_map_or}
use Rattle.dd_clause.specs.declared.clause.Literal.{Literal}
use Rattle.dd_derivation.specs.{Derivations.same_literal, lemmas.Soundness.same_literal-eq}
use Rattle.dd_engines.specs.declared.chains.Link.{Link}
use Rattle.dd_engines.specs.walking.Truths.{times_in, place_of}
use Rattle.dd_engines.specs.walking.Chains.{along, chain_of, AreLinked}

get_front : (xs : List Link) (e : Link) (k : ℕ) → k < length xs → slice_get (xs ++ e ∷ []) k ≡ slice_get xs k
get_front [] e k lt = absurd (omega (arith, lt))
get_front (x ∷ xs) e zero lt = refl
get_front (x ∷ xs) e (suc k) lt = get_front xs e k (omega (arith, lt))

get_last : (xs : List Link) (e : Link) → slice_get (xs ++ e ∷ []) (length xs) ≡ Some e
get_last [] e = refl
get_last (x ∷ xs) e = get_last xs e

get_any : (xs : List Link) (e link : Link) (k : ℕ) → slice_get (xs ++ e ∷ []) k ≡ Some link → (slice_get xs k ≡ Some link) ⊎ ((k ≡ length xs) × (link ≡ e))
get_any [] e link zero is = inr (refl, cc is)
get_any [] e link (suc k) is = absurd (cc is)
get_any (x ∷ xs) e link zero is = inl is
get_any (x ∷ xs) e link (suc k) is = elim (get_any xs e link k is) [
  | inl before ↦ inl before
  | inr last ↦ inr (omega (arith, last.0), last.1)
]

pub linked_push : (links : List Link) (e : Link) → AreLinked links → e.next ≤ length links → AreLinked (links ++ e ∷ [])
linked_push links e linked back k link is = elim (get_any links e link k is) [
  | inl before ↦ linked k link before
  | inr last ↦ rw (last.1, last.0) back
]

along_enough : (links : List Link) → AreLinked links → (f g at : ℕ) → at ≤ f → at ≤ g → along f links at ≡ along g links at
along_enough links linked zero zero at a b = refl
along_enough links linked zero (suc g) zero a b = refl
along_enough links linked zero (suc g) (suc at) a b = absurd (omega (arith, a))
along_enough links linked (suc f) zero zero a b = refl
along_enough links linked (suc f) zero (suc at) a b = absurd (omega (arith, b))
along_enough links linked (suc f) (suc g) zero a b = refl
along_enough links linked (suc f) (suc g) (suc at) a b = go (slice_get links at) (linked at) (λ n less. along_enough links linked f g n (omega (arith, a, less)) (omega (arith, b, less)))
  where
    go : (o : Option Link) → ((link : Link) → o ≡ Some link → link.next ≤ at) → ((n : ℕ) → n ≤ at → along f links n ≡ along g links n)
        → option_map_or (λ link. link.number ∷ along f links link.next) o [] ≡ option_map_or (λ link. link.number ∷ along g links link.next) o []
    go None back rest = refl
    go (Some link) back rest = ap (λ (ks : List ℕ). link.number ∷ ks) (rest link.next (back link refl))

along_push : (links : List Link) (e : Link) → AreLinked links → (f at : ℕ) → at ≤ length links → along f (links ++ e ∷ []) at ≡ along f links at
along_push links e linked zero at few = refl
along_push links e linked (suc f) zero few = refl
along_push links e linked (suc f) (suc at) few =
    ap (λ (o : Option Link). option_map_or (λ link. link.number ∷ along f (links ++ e ∷ []) link.next) o []) (get_front links e at (omega (arith, few)))
    ∙ go (slice_get links at) (linked at) (λ n less. along_push links e linked f n (omega (arith, few, less)))
  where
    go : (o : Option Link) → ((link : Link) → o ≡ Some link → link.next ≤ at) → ((n : ℕ) → n ≤ at → along f (links ++ e ∷ []) n ≡ along f links n)
        → option_map_or (λ link. link.number ∷ along f (links ++ e ∷ []) link.next) o [] ≡ option_map_or (λ link. link.number ∷ along f links link.next) o []
    go None back rest = refl
    go (Some link) back rest = ap (λ (ks : List ℕ). link.number ∷ ks) (rest link.next (back link refl))

-- earlier chains stay as they were when a link is added
pub chain_stays : (links : List Link) (e : Link) (at : ℕ) → AreLinked links → at ≤ length links → chain_of (links ++ e ∷ []) at ≡ chain_of links at
chain_stays links e at linked few = along_push links e linked at at few

-- a new link is put in front of the chain that it leads to
pub chain_push : (links : List Link) (e : Link) → AreLinked links → e.next ≤ length links → chain_of (links ++ e ∷ []) (length links + 1) ≡ e.number ∷ chain_of links e.next
chain_push links e linked back =
    ap (chain_of (links ++ e ∷ [])) (add-one (length links))
    ∙ ap (λ (o : Option Link). option_map_or (λ link. link.number ∷ along (length links) (links ++ e ∷ []) link.next) o []) (get_last links e)
    ∙ ap (λ (ks : List ℕ). e.number ∷ ks) (along_push links e linked (length links) e.next back ∙ along_enough links linked (length links) e.next e.next back (omega arith))

-- the clause numbers along a chain are that of the first link, then those along the chain that this link leads to
pub chain_next : (links : List Link) (at : ℕ) (link : Link) → AreLinked links → slice_get links at ≡ Some link → chain_of links (at + 1) ≡ link.number ∷ chain_of links link.next
chain_next links at link linked is =
    ap (chain_of links) (add-one at)
    ∙ ap (λ (o : Option Link). option_map_or (λ l. l.number ∷ along at links l.next) o []) is
    ∙ ap (λ (ks : List ℕ). link.number ∷ ks) (along_enough links linked at link.next link.next (linked at link is) (omega arith))

-- like `chain_next`, for a chain that is given by the number of its first link, counted from 1; in addition, the next link has a smaller number
pub chain_at : (links : List Link) (at k : ℕ) (link : Link) → AreLinked links → at ≡ k + 1 → at ≤ length links → link ≡ get_or links k link → (chain_of links at ≡ link.number ∷ chain_of links link.next) × (link.next < at)
chain_at links at k link linked is few read =
    let there : slice_get links k ≡ Some link = slice_get-get_or links k link (omega (arith, is, few)) ∙ ap (λ (l : Link). Some l) (sym read) in
    let back : link.next ≤ k = linked k link there in
    (ap (chain_of links) is ∙ chain_next links k link linked there, omega (arith, is, back))

-- ---- one more literal

module _ (firsts : List ℕ) (links : List Link) (number p : ℕ) (linked : AreLinked links) (firsts_in : All (λ at. at ≤ length links) firsts) (within : p < length firsts) where
  abbrev one : Link
  one = record { number = number; next = get_or firsts p 0 }

  pub one_added : chain_of (links ++ one ∷ []) (get_or (set firsts p (length links + 1)) p 0) ≡ number ∷ chain_of links (get_or firsts p 0)
  one_added = ap (chain_of (links ++ one ∷ [])) (get_or-set_same firsts p (length links + 1) 0 within) ∙ chain_push links one linked (firsts_in p 0 within)

  pub others_stay : (q : ℕ) → q < length firsts → q ≢ p → chain_of (links ++ one ∷ []) (get_or (set firsts p (length links + 1)) q 0) ≡ chain_of links (get_or firsts q 0)
  others_stay q lt other = ap (chain_of (links ++ one ∷ [])) (get_or-set_other firsts p q (length links + 1) 0 other) ∙ chain_stays links one (get_or firsts q 0) linked (firsts_in q 0 lt)

  pub linked_still : AreLinked (links ++ one ∷ [])
  linked_still = linked_push links one linked (firsts_in p 0 within)

  pub firsts_still : All (λ at. at ≤ length (links ++ one ∷ [])) (set firsts p (length links + 1))
  firsts_still =
      let long : length (links ++ one ∷ []) ≡ length links + 1 = length-append links (one ∷ []) in
      All-set (λ at. at ≤ length (links ++ one ∷ [])) firsts p (length links + 1) (omega (arith, long))
      (All-weaker (λ at. at ≤ length links) (λ at. at ≤ length (links ++ one ∷ [])) (λ at h. omega (arith, h, long)) firsts firsts_in)

-- ---- the literals of a clause, one after the other

place_differs : (m x : Literal) → 1 ≤ m.variable → 1 ≤ x.variable → same_literal m x ≡ false → place_of m ≢ place_of x
place_differs m x a b other same = absurd (false≢true (sym other ∙ grind (arith, common_steps)))

pub added_more : (m x d : Literal) (xs : List Literal) (i number : ℕ) (first before after : List ℕ) → i < length xs → x ≡ get_or xs i d → 1 ≤ m.variable → 1 ≤ x.variable
    → before ≡ replicate (times_in m (take i xs)) number ++ first → (m ≡ x → after ≡ number ∷ before) → (place_of m ≢ place_of x → after ≡ before)
    → after ≡ replicate (times_in m (take (i + 1) xs)) number ++ first
added_more m x d xs i number first before after lt is a b so_far here other = elim (cases_Bool (same_literal m x)) [
  | inl t ↦
      let times : times_in m (take (i + 1) xs) ≡ times_in m (take i xs) + 1 = count_by_more_yes (same_literal m) xs i d lt (ap (same_literal m) (sym is) ∙ t) in
      here (same_literal-eq m x t) ∙ ap (λ (ks : List ℕ). number ∷ ks) so_far
      ∙ ap (λ (n : ℕ). replicate n number ++ first) (sym (add-one (times_in m (take i xs)))) ∙ ap (λ (n : ℕ). replicate n number ++ first) (sym times)
  | inr f ↦
      let times : times_in m (take (i + 1) xs) ≡ times_in m (take i xs) = count_by_more_no (same_literal m) xs i d lt (ap (same_literal m) (sym is) ∙ f) in
      other (place_differs m x a b f) ∙ so_far ∙ ap (λ (n : ℕ). replicate n number ++ first) (sym times)
]
