-- The uids of a plan's sources.
use Rattle.std.proofs.Common.{◌≡◌, true, [], ◌∷◌, ◌++◌, map, sym, ◌∙◌}
use Rattle.std.specs.List.{All}
use Rattle.std.proofs.lemmas.List.Folds.{list_all-append, list_all-map}
use Rattle.std.proofs.lemmas.List.Sums.{AllPass-from_list_all, list_all-from_AllPass}
use Rattle.byte_fields.proofs.Exact.{both}
use Rattle.plan_model.specs.PlanData.{PlanData, IsPlan, uids}
use Rattle.plan_model.specs.Uids.{is_uid}

pub sources_named : (p : PlanData) → IsPlan p → All (λ s. is_uid s.uid ≡ true) p.sources
sources_named p sound =
    let all = list_all-from_AllPass is_uid (uids p) sound.named in
    let front = (both _ _ (sym (list_all-append is_uid (map (λ s. s.uid) p.sources ++ map (λ f. f.uid) p.filters) (p.window.uid ∷ [])) ∙ all)).0 in
    let first = (both _ _ (sym (list_all-append is_uid (map (λ s. s.uid) p.sources) (map (λ f. f.uid) p.filters)) ∙ front)).0 in
    AllPass-from_list_all (λ s. is_uid s.uid) p.sources (sym (list_all-map is_uid (λ s. s.uid) p.sources) ∙ first)
