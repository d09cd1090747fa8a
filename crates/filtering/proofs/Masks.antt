-- A mask narrowed by one filter after another, and what it keeps.
use Rattle.std.proofs.Common.{◌≡◌, ℕ, ◌+◌, ◌<◌, Bool, true, false, ◌&&◌, List, [], ◌∷◌, ◌++◌, map, take, length, get_or, replicate, refl, sym, ap, ◌∙◌}
use Rattle.std.proofs.lemmas.List.{take_more}
use Rattle.plain_data.specs.Record.{Record, at, column_of}
use Rattle.lane_kernels.specs.Compare.{holds, narrowed}
use Rattle.plan_model.specs.declared.spec.FilterSpec.{FilterSpec}
use Rattle.plan_model.specs.Windows.{passes}
use Rattle.plan_model.proofs.Facts.{and_true}

and_assoc : (a b c : Bool) → (a && (b && c)) ≡ ((a && b) && c)
and_assoc true b c = refl
and_assoc false b c = refl

-- one filter more
passes_push : (fs : List FilterSpec) (f : FilterSpec) (r : Record) → passes (fs ++ f ∷ []) r ≡ (passes fs r && holds f.cmp (at f.column r) f.value)
passes_push [] f r = and_true (holds f.cmp (at f.column r) f.value)
passes_push (g ∷ fs) f r = ap (λ b. holds g.cmp (at g.column r) g.value && b) (passes_push fs f r) ∙ and_assoc (holds g.cmp (at g.column r) g.value) (passes fs r) (holds f.cmp (at f.column r) f.value)

narrowed_once : (fs : List FilterSpec) (f : FilterSpec) (rows : List Record) → narrowed f.cmp f.value (column_of f.column rows) (map (passes fs) rows) ≡ map (passes (fs ++ f ∷ [])) rows
narrowed_once fs f [] = refl
narrowed_once fs f (r ∷ rows) = λ i. sym (passes_push fs f r) i ∷ narrowed_once fs f rows i

pub mask_next : (fs : List FilterSpec) (i : ℕ) (f : FilterSpec) (rows : List Record) (mask : List Bool) → i < length fs → f ≡ get_or fs i f → mask ≡ map (passes (take i fs)) rows
    → narrowed f.cmp f.value (column_of f.column rows) mask ≡ map (passes (take (i + 1) fs)) rows
mask_next fs i f rows mask h is so_far =
    ap (narrowed f.cmp f.value (column_of f.column rows)) so_far
    ∙ narrowed_once (take i fs) f rows
    ∙ ap (λ g. map (passes (take i fs ++ g ∷ [])) rows) is
    ∙ ap (λ l. map (passes l) rows) (sym (take_more fs i f h))

-- at first every row passes
pub mask_start : (rows : List Record) → replicate (length rows) true ≡ map (passes []) rows
mask_start [] = refl
mask_start (r ∷ rows) = ap (λ l. true ∷ l) (mask_start rows)
