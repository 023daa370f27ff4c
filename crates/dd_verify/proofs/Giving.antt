-- The configuration that is made from the numbers of an answer.
use Rattle.std.proofs.Common.{◌≡◌, ℕ, ◌*◌, ◌<◌, ◌≤◌, Bool, true, List, [], ◌∷◌, length, refl, ap, sym, subst, ◌∙◌, arith}
use Rattle.std.proofs.lemmas.Nat.{mul-le}
use Rattle.std.specs.{Prelude.◌↔◌, Prelude.slice_index_or, List.All}
use Rattle.dd_pattern.specs.{declared.periods.Periods.Periods, Periods.AreWithin, Periods.periods_of, Periods.periods_volume}
use Rattle.dd_pattern.specs.Tile.{Tile, tile, IsPeriodic}
use Rattle.dd_formula.specs.LocalRule.{LocalRule, IsRule}
use Rattle.dd_values.specs.declared.limits.Limits.{Limits}
use Rattle.dd_boxes.specs.{Goals.GoalOf, Witnesses.IsWitness}
use Rattle.dd_evidence.specs.Tiles.{given_periods, given_tile}
use Rattle.dd_verify.specs.{Evidence.IsNo, Given.IsGiven}

abbrev sheared : ℕ → ℕ → ℕ → ℕ → Periods
sheared x y z shear = record { x = x; y = y; z = z; shear = shear }

-- ---- the configuration that the code makes from the numbers

pub made_tile : (r : LocalRule) (along : List ℕ) (shear d n x y z : ℕ) (items symbols : List ℕ) → d ≡ r.dimension → n ≡ r.nodes → x ≡ slice_index_or along 0 1 →
    y ≡ slice_index_or along 1 1 → z ≡ slice_index_or along 2 1 → items ≡ symbols →
    tile d (periods_of (x ∷ y ∷ z ∷ []) shear) n items ≡ given_tile r along shear symbols
made_tile r along shear d n x y z items symbols d_is n_is x_is y_is z_is symbols_are =
    ap (λ k. tile k (sheared x y z shear) n items) d_is
    ∙ (ap (λ k. tile r.dimension (sheared k y z shear) n items) x_is
    ∙ (ap (λ k. tile r.dimension (sheared (slice_index_or along 0 1) k z shear) n items) y_is
    ∙ (ap (λ k. tile r.dimension (sheared (slice_index_or along 0 1) (slice_index_or along 1 1) k shear) n items) z_is
    ∙ (ap (λ k. tile r.dimension (given_periods along shear) k items) n_is
    ∙ ap (λ k. tile r.dimension (given_periods along shear) r.nodes k) symbols_are))))

-- if its periods are at most 8, this configuration has few enough symbols for the code to hold it
given_small : (x : LocalRule) (most : ℕ) (along : List ℕ) (shear : ℕ) (symbols : List ℕ) → IsRule x → most ≤ 8 → IsGiven x most along shear symbols →
    IsPeriodic (given_tile x along shear symbols)
given_small x most along shear symbols rule few given =
    let p = given_periods along shear in
    let on_x : p.x ≤ 8 = (let le = given.periods.x_most in omega (arith, le, few)) in
    let on_y : p.y ≤ 8 = (let le = given.periods.y_most in omega (arith, le, few)) in
    let on_z : p.z ≤ 8 = (let le = given.periods.z_most in omega (arith, le, few)) in
    let rows : p.z * p.y ≤ 8 * 8 = mul-le p.z p.y 8 8 on_z on_y in
    let plane : p.z * p.y * p.x ≤ 8 * 8 * 8 = mul-le (p.z * p.y) p.x (8 * 8) 8 rows on_x in
    let all : p.z * p.y * p.x * x.nodes ≤ 8 * 8 * 8 * 4 = mul-le (p.z * p.y * p.x) x.nodes (8 * 8 * 8) 4 plane rule.nodes.1 in
    let full : length symbols ≡ periods_volume p * x.nodes = given.tile.full in
    record { tile = given.tile; small = omega (arith, all, full) }

module _ (x : LocalRule) (most : ℕ) (along : List ℕ) (shear : ℕ) (symbols : List ℕ) (rule : IsRule x) (few : most ≤ 8) (d : ℕ) (dim : d ≡ x.dimension)
    (periods : (length along ≡ d) × AreWithin d most (given_periods along shear)) (below : All (λ s. s < x.symbols) symbols)
    (t : Tile) (is : t ≡ given_tile x along shear symbols) where
  pub given_made : (u : Tile) → u ≡ t → IsPeriodic t → (u ≡ given_tile x along shear symbols) × IsGiven x most along shear symbols
  given_made u same periodic = (
    same ∙ is,
    record {
      as_many = periods.0 ∙ dim;
      periods = subst (λ k. AreWithin k most (given_periods along shear)) dim periods.1;
      tile = (subst IsPeriodic is periodic).tile;
      fits = record { dimension = refl; nodes = refl; symbols = below };
    },
  )

  pub given_not_made : (IsPeriodic t → ⊥) → IsGiven x most along shear symbols → ⊥
  given_not_made none given = none (subst IsPeriodic (sym is) (given_small x most along shear symbols rule few given))

pub not_within : (x : LocalRule) (most : ℕ) (along : List ℕ) (shear : ℕ) (symbols : List ℕ) (d : ℕ) → d ≡ x.dimension →
    ((length along ≡ d) × AreWithin d most (given_periods along shear) → ⊥) → IsGiven x most along shear symbols → ⊥
not_within x most along shear symbols d dim none given =
    none (given.as_many ∙ sym dim, subst (λ k. AreWithin k most (given_periods along shear)) (sym dim) given.periods)

-- ---- the configuration of a NO

pub given_from : (l : Limits) (x : LocalRule) (g : GoalOf) (along : List ℕ) (shear : ℕ) (symbols : List ℕ) → IsNo l x g along shear symbols →
    IsGiven x l.period along shear symbols
given_from l x g along shear symbols told =
    record { as_many = told.as_many; periods = told.periods; tile = told.witness.tile; fits = told.witness.fits }

pub shown_decides : (l : Limits) (x : LocalRule) (g : GoalOf) (along : List ℕ) (shear : ℕ) (symbols : List ℕ) (t : Tile) (b : Bool) →
    (t ≡ given_tile x along shear symbols) × IsGiven x l.period along shear symbols → (b ≡ true) ↔ IsWitness x g t → (b ≡ true) ↔ IsNo l x g along shear symbols
shown_decides l x g along shear symbols t b made told = (
  λ h. record { as_many = made.1.as_many; periods = made.1.periods; witness = subst (IsWitness x g) made.0 (told.0 h) },
  λ w. told.1 (subst (IsWitness x g) (sym made.0) w.witness),
)
