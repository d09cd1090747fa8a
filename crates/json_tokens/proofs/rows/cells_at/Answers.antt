use Rattle.std.proofs.Common.{◌≡◌, ◌++◌, ◌∷◌, [], ℕ, ℤ, List, FitsSigned, true, false, w64, to_z-of_z, refl, sym, ap, subst, ◌∙◌, arith, append-nil}
use Rattle.std.proofs.lemmas.List.{append_assoc, length-append}
use Rattle.json.proofs.Grammar.{after_end_array-shorter}
use Rattle.json_parts.specs.Parts.{whole}
use Rattle.json_tokens.specs.Lexemes.{tokens_from, BeginsItem}
use Rattle.json_tokens.proofs.ItemTurns.{ItemsRead, items_begin, items_next, items_over}
use Rattle.json_tokens.proofs.Passes.{whole_over, comma_over, bracket_over}
use Rattle.json_tokens.proofs.Starts.{starts, starts_over_comma, list_ends, whole_said, whole_shorter}
use Rattle.json_tokens.proofs.rows.cells_at.Goals as goal
use Rattle.json_tokens.proofs.rows.cells_at.Goals.{in-Some, in_default+in-Some-short_item_below_zero, in_default+in_default-short_item_below_zero+in-Some-short_item_behind_space, in_default+in_default-short_item_below_zero+in_default-short_item_behind_space+in-Some-other_item_at}
use Rattle.json_tokens.proofs.rows.cells_at.Goals.{in-Some-short_item_at, in_default-short_item_at+in-Some-short_item_below_zero-2, in_default-short_item_at+in_default-short_item_below_zero-2+in-Some-short_item_behind_space-2, in_default-short_item_at+in_default-short_item_below_zero-2+in_default-short_item_behind_space-2+in-Some-other_item_at-2}

-- the item that the text begins with
record Reads (text : List ℕ) (mark : ℕ) (n : ℤ) (rest : List ℕ) : Type 0 where
  pub said : BeginsItem text mark n rest
  pub fits : FitsSigned w64 n

reads : {text : List ℕ} {mark : ℕ} {n : ℤ} {rest : List ℕ} → BeginsItem text mark n rest → FitsSigned w64 n → Reads text mark n rest
reads said fits = record { said = said; fits = fits }

pub loop-init : goal.loop-init
loop-init c =
    let text = c.args.text.now in
    (tokens_from false text, [], starts text text refl, items_begin whole c.args.depth (tokens_from false text), sym (append-nil c.args.cells.now.items), omega arith, refl, refl, refl)

pub loop-preserved : goal.loop-preserved
loop-preserved c =
    let l = c.loop in
    let i = l.invariant in
    let left = l.left.now in
    let n = c.match-short_item_at.number.0 in
    let u = c.match-short_item_at.number.1.now in
    let read : Reads left 44 n u = elim c.match-short_item_at.branch [
      | in-Some b ↦ subst (λ p. Reads left 44 p.0 p.1.now) (sym b.number-is) (reads b.in-Some.ensures.said b.in-Some.ensures.fits)
      | in_default+in-Some-short_item_below_zero b ↦
          subst (λ p. Reads left 44 p.0 p.1.now) (sym b.number-is) (reads b.in-Some-short_item_below_zero.ensures.said b.in-Some-short_item_below_zero.ensures.fits)
      | in_default+in_default-short_item_below_zero+in-Some-short_item_behind_space b ↦
          subst (λ p. Reads left 44 p.0 p.1.now) (sym b.number-is) (reads b.in-Some-short_item_behind_space.ensures.said b.in-Some-short_item_behind_space.ensures.fits)
      | in_default+in_default-short_item_below_zero+in_default-short_item_behind_space+in-Some-other_item_at b ↦
          subst (λ p. Reads left 44 p.0 p.1.now) (sym b.number-is) (reads b.in-Some-other_item_at.ensures.said b.in-Some-other_item_at.ensures.fits)
    ] in
    let r = read.said.0 in
    let w = read.said.1 in
    let comma = sym read.said.2 in
    let pushed : c.push_reserved.new.self.items ≡ l.cells.items ++ n ∷ [] = c.push_reserved.ensures.items ∙ ap (λ (z : ℤ). l.cells.items ++ z ∷ []) (to_z-of_z {w = w64} {z = n} read.fits) in (
      tokens_from true r,
      i.1 ++ n ∷ [],
      starts_over_comma r (44 ∷ u) u u comma refl refl,
      items_next whole c.args.depth (tokens_from false c.args.text.now) i.0 (tokens_from true r) i.1 n i.3 (whole_said i.0 left n r i.2 w c.args.depth) (whole_shorter i.0 left n r i.2 w),
      pushed ∙ ap (λ xs. xs ++ n ∷ []) i.4 ∙ append_assoc c.args.cells.now.items i.1 (n ∷ []),
      omega (arith, i.5, whole_over left n r w, comma_over r (44 ∷ u) u u comma refl refl),
      omega (arith, i.6, c.push_reserved.ensures.len),
      c.push_reserved.ensures.capacity ∙ i.7,
      omega (arith, i.8, length-append i.1 (n ∷ [])),
    )

pub returns-clause-said : goal.returns-clause-said
returns-clause-said c =
    let l = c.loop in
    let i = l.invariant in
    let left = l.left.now in
    let n = c.match-short_item_at-2.number.0 in
    let over = c.match-short_item_at-2.number.1.now in
    let read : Reads left 93 n over = elim c.match-short_item_at-2.branch [
      | in-Some-short_item_at b ↦ subst (λ p. Reads left 93 p.0 p.1.now) (sym b.number-is) (reads b.in-Some-short_item_at.ensures.said b.in-Some-short_item_at.ensures.fits)
      | in_default-short_item_at+in-Some-short_item_below_zero-2 b ↦
          subst (λ p. Reads left 93 p.0 p.1.now) (sym b.number-is) (reads b.in-Some-short_item_below_zero-2.ensures.said b.in-Some-short_item_below_zero-2.ensures.fits)
      | in_default-short_item_at+in_default-short_item_below_zero-2+in-Some-short_item_behind_space-2 b ↦
          subst (λ p. Reads left 93 p.0 p.1.now) (sym b.number-is) (reads b.in-Some-short_item_behind_space-2.ensures.said b.in-Some-short_item_behind_space-2.ensures.fits)
      | in_default-short_item_at+in_default-short_item_below_zero-2+in_default-short_item_behind_space-2+in-Some-other_item_at-2 b ↦
          subst (λ p. Reads left 93 p.0 p.1.now) (sym b.number-is) (reads b.in-Some-other_item_at-2.ensures.said b.in-Some-other_item_at-2.ensures.fits)
    ] in
    let r = read.said.0 in
    let w = read.said.1 in
    let start = tokens_from false c.args.text.now in
    let pushed : c.push_reserved-2.new.self.items ≡ l.cells.items ++ n ∷ [] = c.push_reserved-2.ensures.items ∙ ap (λ (z : ℤ). l.cells.items ++ z ∷ []) (to_z-of_z {w = w64} {z = n} read.fits) in
    let all : ItemsRead whole c.args.depth start (i.1 ++ n ∷ []) (tokens_from true r) =
    items_next whole c.args.depth start i.0 (tokens_from true r) i.1 n i.3 (whole_said i.0 left n r i.2 w c.args.depth) (whole_shorter i.0 left n r i.2 w) in (
      i.1 ++ n ∷ [],
      items_over whole c.args.depth start (tokens_from true r) (tokens_from true over) (i.1 ++ n ∷ []) all (list_ends true r (93 ∷ over) over (sym read.said.2) refl),
      pushed ∙ ap (λ xs. xs ++ n ∷ []) i.4 ∙ append_assoc c.args.cells.now.items i.1 (n ∷ []),
      omega (arith, i.8, length-append i.1 (n ∷ [])),
    )

pub returns-clause-shorter : goal.returns-clause-shorter
returns-clause-shorter c =
    let l = c.loop in
    let i = l.invariant in
    let left = l.left.now in
    let n = c.match-short_item_at-2.number.0 in
    let over = c.match-short_item_at-2.number.1.now in
    let read : Reads left 93 n over = elim c.match-short_item_at-2.branch [
      | in-Some-short_item_at b ↦ subst (λ p. Reads left 93 p.0 p.1.now) (sym b.number-is) (reads b.in-Some-short_item_at.ensures.said b.in-Some-short_item_at.ensures.fits)
      | in_default-short_item_at+in-Some-short_item_below_zero-2 b ↦
          subst (λ p. Reads left 93 p.0 p.1.now) (sym b.number-is) (reads b.in-Some-short_item_below_zero-2.ensures.said b.in-Some-short_item_below_zero-2.ensures.fits)
      | in_default-short_item_at+in_default-short_item_below_zero-2+in-Some-short_item_behind_space-2 b ↦
          subst (λ p. Reads left 93 p.0 p.1.now) (sym b.number-is) (reads b.in-Some-short_item_behind_space-2.ensures.said b.in-Some-short_item_behind_space-2.ensures.fits)
      | in_default-short_item_at+in_default-short_item_below_zero-2+in_default-short_item_behind_space-2+in-Some-other_item_at-2 b ↦
          subst (λ p. Reads left 93 p.0 p.1.now) (sym b.number-is) (reads b.in-Some-other_item_at-2.ensures.said b.in-Some-other_item_at-2.ensures.fits)
    ] in
    let r = read.said.0 in
    let closes = list_ends true r (93 ∷ over) over (sym read.said.2) refl in
    omega (arith, i.3.shorter, whole_shorter i.0 left n r i.2 read.said.1, after_end_array-shorter (tokens_from true r) (tokens_from true over) closes)

pub returns-clause-fewer : goal.returns-clause-fewer
returns-clause-fewer c =
    let l = c.loop in
    let i = l.invariant in
    let left = l.left.now in
    let n = c.match-short_item_at-2.number.0 in
    let over = c.match-short_item_at-2.number.1.now in
    let read : Reads left 93 n over = elim c.match-short_item_at-2.branch [
      | in-Some-short_item_at b ↦ subst (λ p. Reads left 93 p.0 p.1.now) (sym b.number-is) (reads b.in-Some-short_item_at.ensures.said b.in-Some-short_item_at.ensures.fits)
      | in_default-short_item_at+in-Some-short_item_below_zero-2 b ↦
          subst (λ p. Reads left 93 p.0 p.1.now) (sym b.number-is) (reads b.in-Some-short_item_below_zero-2.ensures.said b.in-Some-short_item_below_zero-2.ensures.fits)
      | in_default-short_item_at+in_default-short_item_below_zero-2+in-Some-short_item_behind_space-2 b ↦
          subst (λ p. Reads left 93 p.0 p.1.now) (sym b.number-is) (reads b.in-Some-short_item_behind_space-2.ensures.said b.in-Some-short_item_behind_space-2.ensures.fits)
      | in_default-short_item_at+in_default-short_item_below_zero-2+in_default-short_item_behind_space-2+in-Some-other_item_at-2 b ↦
          subst (λ p. Reads left 93 p.0 p.1.now) (sym b.number-is) (reads b.in-Some-other_item_at-2.ensures.said b.in-Some-other_item_at-2.ensures.fits)
    ] in
    let r = read.said.0 in
    omega (arith, i.5, whole_over left n r read.said.1, bracket_over r (93 ∷ over) over (sym read.said.2) refl)
