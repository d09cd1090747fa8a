use Rattle.std.proofs.Common.{◌≡◌, ℕ, ℤ, ◌+◌, ◌*◌, pos, List, [], ◌∷◌, ◌++◌, get_or, map, ap, sym, ◌∙◌, arith, rules}
use Rattle.std.specs.List.{range_with_len}
use Rattle.std.proofs.lemmas.List.{append_assoc}
use Rattle.std.proofs.lemmas.List.FromFn.{map-range_with_len_more}
use Rattle.stream_input.proofs.cells.put_column.Goals as goal

-- the cell of one row more
cell_more : (first old new : List ℤ) (cell : ℕ → ℤ) (n : ℕ) (x : ℤ) → old ≡ first ++ map cell (range_with_len 0 n) → x ≡ cell n → new ≡ old ++ x ∷ [] → new ≡ first ++ map cell (range_with_len 0 (n + 1))
cell_more first old new cell n x before is more =
    more ∙ (λ o. before o ++ is o ∷ []) ∙ append_assoc first (map cell (range_with_len 0 n)) (cell n ∷ [])
    ∙ ap (λ (xs : List ℤ). first ++ xs) (sym (map-range_with_len_more cell 0 n n (omega arith)))

pub loop-row-preserved : goal.loop-row-preserved
loop-row-preserved c =
    let i = c.loop-row.invariant in
    let cell : ℕ → ℤ = λ row. get_or c.args.cells.now (row * c.args.width + c.args.column) (pos 0) in
    record {
      items = cell_more c.args.numbers.now.items c.loop-row.numbers.items _ cell c.loop-row.row _ i.items (search rules) c.push_reserved.ensures.items;
      len = omega (arith, i.len, c.push_reserved.ensures.len);
      capacity = c.push_reserved.ensures.capacity ∙ i.capacity;
    }
