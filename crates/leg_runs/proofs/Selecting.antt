-- Elements of a list that have a property.
use Rattle.std.proofs.Common.{◌≡◌, ℕ, zero, suc, ◌<◌, ◌≤◌, ◌+◌, List, [], ◌∷◌, ◌++◌, length, map, take, drop, get_or, refl, sym, ap, subst, ◌∙◌, inl, inr, arith}
use Rattle.std.specs.Prelude.{slice_get, Some, None, flat_map}
use Rattle.std.specs.List.{range_with_len, sum}
use Rattle.std.proofs.lemmas.Bool.{cases_lt}
use Rattle.std.proofs.lemmas.Grind.{flat_map-append}
use Rattle.std.proofs.lemmas.List.Folds.{flat_map-map}
use Rattle.std.proofs.lemmas.List.{length-append, append-nil, append_assoc, take-append-drop, take_all}
use Rattle.std.proofs.lemmas.Option.{slice_get_past}
use Rattle.std.proofs.lemmas.List.Sums.{sum_by_more}
use Rattle.std.proofs.lemmas.List.FromFn.{map-range_with_len_more}
use Rattle.plain_data.proofs.Facts.{taken_more}
use Rattle.leg_runs.specs.Choosing.{Selects, HasCount}
use Rattle.leg_runs.specs.Choosing.Selects.{none, takes, leaves}

-- those of two lists, one behind the other
pub joined : {X : Type 0} (P : X → Type 0) (xs ys us vs : List X) → Selects P xs ys → Selects P us vs → Selects P (xs ++ us) (ys ++ vs)
joined P xs ys us vs none rest = rest
joined P xs ys us vs (takes {xs = xs'} {ys = ys'} p s) rest = takes p (joined P xs' ys' us vs s rest)
joined P xs ys us vs (leaves {xs = xs'} np s) rest = leaves np (joined P xs' ys us vs s rest)

pub no_more : {X : Type 0} (P : X → Type 0) (xs ys : List X) → Selects P xs ys → length ys ≤ length xs
no_more P xs ys none = omega (arith)
no_more P xs ys (takes {xs = xs'} {ys = ys'} p s) = (let rest = no_more P xs' ys' s in omega (arith, rest))
no_more P xs ys (leaves {xs = xs'} np s) = (let rest = no_more P xs' ys s in omega (arith, rest))

-- the first element, where it has the property and where not
head_in : {X : Type 0} (P : X → Type 0) (x : X) (us full : List X) → P x → Selects P (x ∷ us) full → (rest : List X) × (full ≡ x ∷ rest) × Selects P us rest
head_in P x us full p (takes {ys = ys'} q s) = (ys', refl, s)
head_in P x us full p (leaves np s) = absurd (np p)

head_out : {X : Type 0} (P : X → Type 0) (x : X) (us full : List X) → (P x → ⊥) → Selects P (x ∷ us) full → Selects P us full
head_out P x us full np (takes q s) = absurd (np q)
head_out P x us full np (leaves mp s) = s

-- what was selected so far is how all that are selected begin
pub begins : {X : Type 0} (P : X → Type 0) (xs ys us full : List X) → Selects P xs ys → Selects P (xs ++ us) full → (rest : List X) × (full ≡ ys ++ rest) × Selects P us rest
begins P xs ys us full none all = (full, refl, all)
begins P xs ys us full (takes {x = x} {xs = xs'} {ys = ys'} p s) all =
    let here = head_in P x (xs' ++ us) full p all in
    let more = begins P xs' ys' us here.0 s here.2 in
    (more.0, here.1 ∙ ap (λ r. x ∷ r) more.1, more.2)
begins P xs ys us full (leaves {x = x} {xs = xs'} np s) all = begins P xs' ys us full s (head_out P x (xs' ++ us) full np all)

abbrev pub AllOf : {X : Type 0} → (X → Type 0) → List X → Type 0
AllOf P [] = Unit {0}
AllOf P (x ∷ xs) = P x × AllOf P xs

-- properties that come to the same select the same
pub likewise : {X : Type 0} (P Q : X → Type 0) (R : X → Type 0) (xs ys : List X) → ((x : X) → R x → P x → Q x) → ((x : X) → R x → Q x → P x) → AllOf R xs → Selects P xs ys → Selects Q xs ys
likewise P Q R xs ys to back all none = none
likewise P Q R xs ys to back all (takes {x = x} {xs = xs'} {ys = ys'} p s) = takes (to x (all.0) p) (likewise P Q R xs' ys' to back all.1 s)
likewise P Q R xs ys to back all (leaves {x = x} {xs = xs'} np s) = leaves (λ q. np (back x all.0 q)) (likewise P Q R xs' ys to back all.1 s)

-- the element at a seam, and those before and behind
pub at_seam : {X : Type 0} (ys : List X) (x : X) (zs : List X) → slice_get (ys ++ x ∷ zs) (length ys) ≡ Some x
at_seam [] x zs = refl
at_seam (y ∷ ys) x zs = at_seam ys x zs

pub before_seam : {X : Type 0} (ys zs : List X) (k : ℕ) → k < length ys → slice_get (ys ++ zs) k ≡ slice_get ys k
before_seam [] zs k l = absurd (omega (arith, l))
before_seam (y ∷ ys) zs zero l = refl
before_seam (y ∷ ys) zs (suc k) l = before_seam ys zs k (omega (arith, l))

pub behind_seam : {X : Type 0} (ys zs : List X) (k : ℕ) → slice_get (ys ++ zs) (length ys + k) ≡ slice_get zs k
behind_seam [] zs k = (let e : 0 + k ≡ k = omega (arith) in ap (slice_get zs) e)
behind_seam (y ∷ ys) zs k = (let e : suc (length ys) + k ≡ suc (length ys + k) = omega (arith) in ap (slice_get (y ∷ ys ++ zs)) e ∙ behind_seam ys zs k)

-- lists of numbers, joined
abbrev same : {X : Type 0} → X → X
same x = x

pub flat_more : {X : Type 0} (g : ℕ → List X) (n : ℕ) → flat_map g (range_with_len 0 (n + 1)) ≡ flat_map g (range_with_len 0 n) ++ g n
flat_more {X} g n =
    let e : 0 + n ≡ n = omega (arith) in
    let lists : List ℕ → List (List X) = map g in
    sym (flat_map-map same g (range_with_len 0 (n + 1)))
    ∙ ap (flat_map same) (map-range_with_len_more g 0 n n e)
    ∙ flat_map-append same (lists (range_with_len 0 n)) (g n ∷ [])
    ∙ (λ i. (flat_map-map same g (range_with_len 0 n)) i ++ (append-nil (g n)) i)

pub flat_selects : {X : Type 0} (P : X → Type 0) (f g : ℕ → List X) (n : ℕ) → ((t : ℕ) → t < n → Selects P (f t) (g t)) → Selects P (flat_map f (range_with_len 0 n)) (flat_map g (range_with_len 0 n))
flat_selects P f g zero each = none
flat_selects P f g (suc n) each =
    let e : n + 1 ≡ suc n = omega (arith) in
    let below = flat_selects P f g n (λ t l. each t (omega (arith, l))) in
    let last = each n (omega (arith)) in
    let all = joined P (flat_map f (range_with_len 0 n)) (flat_map g (range_with_len 0 n)) (f n) (g n) below last in
    subst (λ m. Selects P (flat_map f (range_with_len 0 m)) (flat_map g (range_with_len 0 m))) e
    (subst (λ xs. Selects P xs (flat_map g (range_with_len 0 (n + 1)))) (sym (flat_more f n)) (subst (λ ys. Selects P (flat_map f (range_with_len 0 n) ++ f n) ys) (sym (flat_more g n)) all))

-- as many as the counts say, where they count the lists
pub flat_length : {X : Type 0} (g : ℕ → List X) (counts : List ℕ) (n : ℕ) → n ≤ length counts → ((t : ℕ) → t < n → length (g t) ≡ get_or counts t 0) → length (flat_map g (range_with_len 0 n)) ≡ sum (take n counts)
flat_length g counts zero l each = refl
flat_length g counts (suc n) l each =
    let e : n + 1 ≡ suc n = omega (arith) in
    let below = flat_length g counts n (omega (arith, l)) (λ t m. each t (omega (arith, m))) in
    let last = each n (omega (arith)) in
    let joins = length-append (flat_map g (range_with_len 0 n)) (g n) in
    let adds = sum_by_more (λ x. x) counts n 0 (omega (arith, l)) in
    ap (λ m. length (flat_map g (range_with_len 0 m))) (sym e) ∙ ap length (flat_more g n) ∙ joins ∙ (λ i. below i + last i) ∙ sym adds ∙ ap (λ m. sum (take m counts)) e

flat_within : {X : Type 0} (g : ℕ → List X) (n t k : ℕ) → t < n → k < length (g t) → length (flat_map g (range_with_len 0 t)) + k < length (flat_map g (range_with_len 0 n))
flat_within g zero t k l m = absurd (omega (arith, l))
flat_within g (suc n) t k l m =
    let e : n + 1 ≡ suc n = omega (arith) in
    let joins = ap (λ j. length (flat_map g (range_with_len 0 j))) (sym e) ∙ ap length (flat_more g n) ∙ length-append (flat_map g (range_with_len 0 n)) (g n) in
    elim (cases_lt t n) [
      | inl less ↦ (let there = flat_within g n t k less m in omega (arith, joins, there))
      | inr more ↦ (let same : t ≡ n = omega (arith, l, more) in
          let here = ap (λ j. length (flat_map g (range_with_len 0 j))) same in
          let long = ap (λ j. length (g j)) same in
          omega (arith, joins, here, long, m))
    ]

-- what stands at a place of one of them
pub flat_place : {X : Type 0} (g : ℕ → List X) (n t k : ℕ) → t < n → k < length (g t) → slice_get (flat_map g (range_with_len 0 n)) (length (flat_map g (range_with_len 0 t)) + k) ≡ slice_get (g t) k
flat_place g zero t k l m = absurd (omega (arith, l))
flat_place {X} g (suc n) t k l m =
    let e : n + 1 ≡ suc n = omega (arith) in
    let below : List X = flat_map g (range_with_len 0 n) in
    let at : ℕ = length (flat_map g (range_with_len 0 t)) + k in
    ap (λ j. slice_get (flat_map g (range_with_len 0 j)) at) (sym e) ∙ ap (λ xs. slice_get xs at) (flat_more g n) ∙
    elim (cases_lt t n) [
      | inl less ↦ (let there = flat_place g n t k less m in before_seam below (g n) at (flat_within g n t k less m) ∙ there)
      | inr more ↦ (let same : t ≡ n = omega (arith, l, more) in
          subst (λ j. slice_get (below ++ g n) (length (flat_map g (range_with_len 0 j)) + k) ≡ slice_get (g j) k) (sym same) (behind_seam below (g n) k))
    ]

-- one more element is looked at, which has the property or has not
split_get : {X : Type 0} (xs : List X) (n : ℕ) (x : X) → slice_get xs n ≡ Some x → (us : List X) × (xs ≡ take n xs ++ x ∷ us)
split_get xs n x is =
    (drop (n + 1) xs, sym (take-append-drop (n + 1) xs) ∙ ap (λ ys. ys ++ drop (n + 1) xs) (taken_more xs n x is) ∙ append_assoc (take n xs) (x ∷ []) (drop (n + 1) xs))

pub one_more : {X : Type 0} (P : X → Type 0) (xs : List X) (n count : ℕ) (x : X) → slice_get xs n ≡ Some x → P x → HasCount P (take n xs) count → HasCount P (take (n + 1) xs) (count + 1)
one_more P xs n count x is p has = (
  has.0 ++ x ∷ [],
  subst (λ ys. Selects P ys (has.0 ++ x ∷ [])) (sym (taken_more xs n x is)) (joined P (take n xs) has.0 (x ∷ []) (x ∷ []) has.1 (takes p none)),
  (let e = length-append has.0 (x ∷ []) in let f = has.2 in omega (arith, e, f)),
)

pub none_more : {X : Type 0} (P : X → Type 0) (xs : List X) (n count : ℕ) (x : X) → slice_get xs n ≡ Some x → (P x → ⊥) → HasCount P (take n xs) count → HasCount P (take (n + 1) xs) count
none_more P xs n count x is np has = (
  has.0,
  subst (λ ys. Selects P ys has.0) (sym (taken_more xs n x is)) (subst (Selects P (take n xs ++ x ∷ [])) (append-nil has.0) (joined P (take n xs) has.0 (x ∷ []) [] has.1 (leaves np none))),
  has.2,
)

pub counted_all : {X : Type 0} (P : X → Type 0) (xs : List X) (n count : ℕ) → length xs ≤ n → HasCount P (take n xs) count → HasCount P xs count
counted_all P xs n count l has = subst (λ ys. HasCount P ys count) (take_all n xs l) has

-- the element behind those that were selected so far is the next of all that are, and none is left behind all
pub next_is : {X : Type 0} (P : X → Type 0) (xs full : List X) (n count : ℕ) (x : X) → slice_get xs n ≡ Some x → P x → HasCount P (take n xs) count → Selects P xs full → slice_get full count ≡ Some x
next_is P xs full n count x is p has all =
    let parts = split_get xs n x is in
    let rest = begins P (take n xs) has.0 (x ∷ parts.0) full has.1 (subst (λ ys. Selects P ys full) parts.1 all) in
    let here = head_in P x parts.0 rest.0 p rest.2 in
    ap (λ k. slice_get full k) (sym has.2) ∙ ap (λ ys. slice_get ys (length has.0)) (rest.1 ∙ ap (λ ys. has.0 ++ ys) here.1) ∙ at_seam has.0 x here.0

pub none_behind : {X : Type 0} (P : X → Type 0) (xs full : List X) (count place : ℕ) → HasCount P xs count → count ≤ place → Selects P xs full → slice_get full place ≡ None
none_behind P xs full count place has l all =
    let rest = begins P xs has.0 [] full has.1 (subst (λ ys. Selects P ys full) (sym (append-nil xs)) all) in
    let few = no_more P [] rest.0 rest.2 in
    let long = ap length rest.1 ∙ length-append has.0 rest.0 in
    let same = has.2 in
    slice_get_past full place (omega (arith, few, long, same, l))
