use Rattle.std.proofs.Common.{◌≡◌, ℕ, ◌<◌, ◌-◌, ◌+◌, List, [], ◌∷◌, ◌++◌, length, drop, set, length-set, get_or, ap, sym, ◌∙◌, append_assoc, arith, rules}
use Rattle.std.proofs.lemmas.List.{drop-set, drop-drop}
use Rattle.std.proofs.lemmas.Str.{IsAscii-append}
use Rattle.std.proofs.lemmas.Str.Ascii.{IsAscii-nil, IsAscii-cons}
use Rattle.part_texts.specs.InputTexts.{cells_text}
use Rattle.part_texts.proofs.records.put_record.Goals as goal

-- numbers between brackets, behind a comma
framed : (line cells : List ℕ) (start : ℕ) (old : List ℕ) (end : ℕ) → 0 < start → start < length line → 0 < end → end - 1 < length old → drop start line ≡ (44 ∷ cells) ++ drop (end - 1) (set old (end - 1) 93)
    → drop (start - 1) (set (set line start 91) (start - 1) 44) ≡ (44 ∷ (91 ∷ (cells ++ 93 ∷ []))) ++ drop end old
framed line cells start old end some inside last within written =
    let next : start - 1 + 1 ≡ start = omega arith in
    let past : end - 1 + 1 ≡ end = omega arith in
    let before : start - 1 < length (set line start 91) = omega (arith, inside, length-set line start 91) in
    let behind : drop (start + 1) line ≡ cells ++ drop (end - 1) (set old (end - 1) 93) = sym (drop-drop 1 start line) ∙ ap (drop 1) written in
    let closed : drop (end - 1) (set old (end - 1) 93) ≡ 93 ∷ drop end old = drop-set old (end - 1) 93 within ∙ ap (λ k. 93 ∷ drop k old) past in
    drop-set (set line start 91) (start - 1) 44 before
    ∙ ap (λ k. 44 ∷ drop k (set line start 91)) next
    ∙ ap (λ l. 44 ∷ l) (drop-set line start 91 inside)
    ∙ ap (λ l. 44 ∷ 91 ∷ l) (behind ∙ ap (λ l. cells ++ l) closed ∙ sym (append_assoc cells (93 ∷ []) (drop end old)))

pub returns-clause-written : goal.returns-clause-written
returns-clause-written c =
    let w = c.put_cells-start in
    let cells = cells_text c.args.batch.now.width (get_or c.args.batch.now.rows c.args.row []) in
    let same : length w.new.line ≡ length c.args.line.now = search rules in
    framed w.new.line cells w.result c.args.line.now c.args.end (omega arith) (omega (arith, same)) (omega arith) (omega arith) w.ensures.written

pub returns-clause-ascii : goal.returns-clause-ascii
returns-clause-ascii c =
    let cells = cells_text c.args.batch.now.width (get_or c.args.batch.now.rows c.args.row []) in
    IsAscii-cons 91 _ (omega arith) (IsAscii-append cells (93 ∷ []) c.put_cells-start.ensures.ascii (IsAscii-cons 93 [] (omega arith) IsAscii-nil))
