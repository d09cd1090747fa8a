use Rattle.std.proofs.Common.{ℤ, Option, Some, rules, refl, ap, ◌∙◌, sym, FitsSigned, w64}
use Rattle.std.proofs.lemmas.Int.{to_z-of_z}
use Rattle.import_entries.specs.declared.place.Place.TheVariants.{Begins}
use Rattle.import_entries.specs.Entries.{late_said, standing_said}
use Rattle.import_entries.proofs.Steps.{rows_of, fault_begun, place_begun, rows_begun}
use Rattle.import_entries.proofs.progress.Progress.begin.Goals as goal

pub returns-in-Some : goal.returns-in-Some
returns-in-Some c times e =
    let fault = fault_begun c.args.rule.most_rows c.args.rule.bound times c.args.time c.args.self.now e c.args.rule.sized.0 c.requires.full c.requires.time in
    let mark = ap (λ (m : Option ℤ). late_said m c.args.time) c.mark-mark.ensures in
    let late = rw (to_z-of_z w64 c.args.time c.ranges.time) at c.late.ensures in
    (fault ∙ sym mark ∙ sym late ∙ c.in-Some.is, refl)

pub returns : goal.returns
returns c times e =
    let fault = fault_begun c.args.rule.most_rows c.args.rule.bound times c.args.time c.args.self.now e c.args.rule.sized.0 c.requires.full c.requires.time in
    let mark = ap (λ (m : Option ℤ). late_said m c.args.time) c.mark-mark.ensures in
    let late = rw (to_z-of_z w64 c.args.time c.ranges.time) at c.late.ensures in
    let greatest = rw (to_z-of_z w64 c.args.time c.ranges.time) at (c.greater.ensures times (rows_of c.args.rule.most_rows times c.args.self.now e).1) in
    let fits : FitsSigned w64 c.greater.result = search rules in
    let whole = ap Some (to_z-of_z w64 c.greater.result fits) ∙ greatest in
    (fault ∙ sym mark ∙ sym late ∙ c.in_default.is, ap Begins (c.standing.ensures ∙ ap (standing_said c.args.rule.bound) c.mark-mark.ensures) ∙ place_begun c.args.rule.most_rows c.args.rule.bound times c.args.self.now e c.args.rule.sized.0 c.requires.full, rows_begun c.args.rule.most_rows times c.args.time _ c.args.self.now e c.args.rule.sized.0 c.requires.full whole)
