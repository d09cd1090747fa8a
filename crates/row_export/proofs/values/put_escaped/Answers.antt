use Rattle.std.proofs.Common.{rules, ◌≡◌, ◌∷◌, [], ◌∙◌}
use Rattle.json.specs.Token.{string}
use Rattle.json.specs.Print.{print, quoted}
use Rattle.row_export.proofs.Members.{print_string}
use Rattle.row_export.proofs.values.put_escaped.Goals as goal

pub returns : goal.returns
returns c =
    let made : c.into_inner.result.items ≡ print (string c.args.text.now ∷ []) = search rules in
    let text : c.into_inner.result.items ≡ quoted c.args.text.now = made ∙ print_string c.args.text.now in
    search rules
