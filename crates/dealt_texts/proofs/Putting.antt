-- One more row of the whole.
use Rattle.std.proofs.Common.{◌≡◌, ℕ, ◌<◌, ◌==◌, List, ◌∷◌, length, ap, ◌∙◌, arith}
use Rattle.import_entries.specs.declared.place.Place.{Place}
use Rattle.import_entries.specs.declared.rule.EntryRule.{EntryRule}
use Rattle.import_entries.specs.Entries.{place_said}
use Rattle.entry_texts.specs.Partitions.{Row, times_of}
use Rattle.dealt_texts.specs.Dealing.{owner_of}
use Rattle.dealt_texts.specs.declared.dealing.Dealing.{Dealing}
use Rattle.dealt_texts.specs.Parts.{Growing}
use Rattle.dealt_texts.specs.Steps.{Each, text_at, placed, dealt}
use Rattle.dealt_texts.specs.Texts.{behind, part_of_rows}
use Rattle.dealt_texts.proofs.Behind.{behind_placed, behind_dealt}

pub texts_put : (rule : EntryRule) (dealing : Dealing) (rows : List Row) (row : Row) (place : Place) (owner : ℕ) (written : ℕ → List ℕ) (old mid new : List Growing)
    → length old ≡ dealing.parts → place ≡ place_said rule.most_rows rule.bound (times_of rows) → owner ≡ owner_of dealing row.first row.others
    → Each (λ i p. placed place p) old mid → Each (λ i p. dealt (owner == i) row p) mid new
    → ((i : ℕ) → i < dealing.parts → behind (written i) (text_at old i) ≡ part_of_rows rule dealing i rows)
    → (i : ℕ) → i < dealing.parts → behind (written i) (text_at new i) ≡ part_of_rows rule dealing i (row ∷ rows)
texts_put rule dealing rows row place owner written old mid new all is_place is_owner first next so_far i h =
    let part = part_of_rows rule dealing i rows in
    ap (behind (written i)) (next.each i (omega (arith, h, all, first.same)) ∙ ap (dealt (owner == i) row) (first.each i (omega (arith, h, all))))
    ∙ behind_dealt (written i) (owner == i) row (placed place (text_at old i))
    ∙ ap (dealt (owner == i) row) (behind_placed (written i) place (text_at old i) ∙ ap (placed place) (so_far i h))
    ∙ ap (λ o. dealt (o == i) row (placed place part)) is_owner
    ∙ ap (λ pl. dealt (owner_of dealing row.first row.others == i) row (placed pl part)) is_place
