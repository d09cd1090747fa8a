use Rattle.std.proofs.Common.{◌≡◌, ℕ, ℤ, pos, Some, [], ◌∷◌, ◌+◌, ◌++◌, List, take, string_bytes, rules, append_assoc, sym, ap, ◌∙◌, to_z, of_z}
use Rattle.std.specs.Int.{w128}
use Rattle.std.specs.List.{flat_map, slice_get}
use Rattle.std.proofs.lemmas.Int.{to_z-of_z}
use Rattle.std.proofs.lemmas.Grind.{flat_map-append}
use Rattle.std.proofs.lemmas.List.{append-nil, take_more}
use Rattle.std.proofs.lemmas.List.Concat.{flat_map-cons}
use Rattle.std.proofs.lemmas.Option.{get_or_from_slice_get, slice_get_within}
use Rattle.row_lines.specs.Text.{spaced}
use Rattle.row_lines.proofs.text.push_numbers.Goals as goal

one_more : (zs : List ℤ) (i : ℕ) (z : ℤ) → slice_get zs i ≡ Some z → flat_map spaced (take (i + 1) zs) ≡ flat_map spaced (take i zs) ++ spaced z
one_more zs i z e =
    ap (flat_map spaced) (take_more zs i (pos 0) (slice_get_within zs i z e) ∙ ap (λ x. take i zs ++ x ∷ []) (get_or_from_slice_get zs i z (pos 0) e))
    ∙ flat_map-append spaced (take i zs) (z ∷ [])
    ∙ ap (λ l. flat_map spaced (take i zs) ++ l) (flat_map-cons spaced z [] ∙ append-nil (spaced z))

pub loop-index-preserved : goal.loop-index-preserved
loop-index-preserved c =
    let zs = c.args.numbers.now in
    let text = string_bytes c.args.text.now in
    let i = c.loop-index.index in
    let z = c.unwrap.result in
    let back : to_z w128 (of_z w128 z) ≡ z = to_z-of_z w128 z (search rules) in
    c.in_ok-push_spaced.ensures ∙ (λ t. c.loop-index.invariant t ++ spaced (back t))
    ∙ append_assoc text (flat_map spaced (take i zs)) (spaced z)
    ∙ ap (λ l. text ++ l) (sym (one_more zs i z (sym c.get.ensures ∙ c.unwrap.ensures)))
