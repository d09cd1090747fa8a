-- Records behind others.
use Rattle.std.proofs.Common.{◌≡◌, ℕ, List, [], ◌∷◌, ◌++◌, refl, ap, ◌∙◌}
use Rattle.import_entries.specs.declared.rule.EntryRule.{EntryRule}
use Rattle.entry_texts.specs.Partitions.{Row}
use Rattle.import_fates.specs.Fates.{Taken, fate_said, keys_with, keys_after, rows_with, rows_after}

pub keys_behind : (keys : List (List ℕ)) (more before : List Taken) → keys_after (keys_after keys before) more ≡ keys_after keys (more ++ before)
keys_behind keys [] before = refl
keys_behind keys (taken ∷ more) before = ap (λ (ks : List (List ℕ)). keys_with ks taken) (keys_behind keys more before)

pub rows_behind : (rule : EntryRule) (keys : List (List ℕ)) (rows : List Row) (more before : List Taken)
    → rows_after rule (keys_after keys before) (rows_after rule keys rows before) more ≡ rows_after rule keys rows (more ++ before)
rows_behind rule keys rows [] before = refl
rows_behind rule keys rows (taken ∷ more) before =
    let old = rows_after rule (keys_after keys before) (rows_after rule keys rows before) more in
    ap (λ (ks : List (List ℕ)). rows_with (fate_said rule ks old taken) taken old) (keys_behind keys more before)
    ∙ ap (λ (rs : List Row). rows_with (fate_said rule (keys_after keys (more ++ before)) rs taken) taken rs) (rows_behind rule keys rows more before)
