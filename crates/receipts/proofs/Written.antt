-- A receipt that was written is read as it was.
use Rattle.std.proofs.Common.{◌≡◌, ◌≤◌, List, [], Option, option_and_then, sym, ap, ◌∙◌, append-nil}
use Rattle.json.specs.Token.{Token}
use Rattle.json.specs.Lex.{tokens}
use Rattle.json.specs.Json as json
use Rattle.json.specs.Tree as tree
use Rattle.json.proofs.Printed.Tokens.{tokens-print}
use Rattle.json.proofs.Printed.Trees.{value-json_tokens, ArePrintable-json_tokens}
use Rattle.serde_json.specs.Data.{Data}
use Rattle.serde_json.specs.Read.{read, of_json, max_depth}
use Rattle.serde_json.specs.Written.{outline, compact_text}
use Rattle.serde_json.proofs.Texts.{print-outline}
use Rattle.receipts.proofs.Plains.{IsPlain, has_numbers}

-- a plain value that is not nested deep is read of its text as what its members come to
pub value_read : (d : Data) → IsPlain d → tree.depth (outline d) ≤ max_depth → read (compact_text d) ≡ of_json (outline d)
value_read d plain shallow =
    let same : tokens (compact_text d) ≡ tree.json_tokens (outline d) = ap tokens (sym (print-outline d)) ∙ tokens-print (tree.json_tokens (outline d)) (ArePrintable-json_tokens (outline d) (has_numbers d plain)) in
    ap (λ (o : Option (json.Json × List Token)). option_and_then of_json (option_and_then (λ p. json.if_last p.0 p.1) o))
    (ap (json.value max_depth) (same ∙ sym (append-nil _)) ∙ value-json_tokens (outline d) max_depth [] shallow)
