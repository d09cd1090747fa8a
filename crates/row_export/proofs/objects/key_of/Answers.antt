use Rattle.std.proofs.Common.{rules, ◌≡◌, ◌∷◌, [], ◌∙◌}
use Rattle.json.specs.Token.{key}
use Rattle.json.specs.Print.{print}
use Rattle.row_export.proofs.Members.{print_key}
use Rattle.row_export.proofs.objects.key_of.Goals as goal

pub returns : goal.returns
returns c =
    let made : c.into_inner.result.items ≡ print (key c.args.title.now ∷ []) = search rules in
    made ∙ print_key c.args.title.now
