use Rattle.std.proofs.Common.{◌≡◌, ℕ, List, ◌++◌, ◌+◌, ◌-◌, ◌≤◌, ◌∙◌, sym, ap, length, take, drop, arith, rules}
use Rattle.std.proofs.lemmas.List.{drop-drop, drop_at, drop-append-le, length-take-le}
use borrow.Rule.Slice.PartMut.{put_mid, Post-is}
use Rattle.job_texts.proofs.narrow.Front.put.Goals as goal

-- a text that is written whole so that it ends at `end`, from where it begins in its room
whole : (line text : List ℕ) (end from : ℕ) → 48 ≤ end → end ≤ length line → from ≤ 48 → length text ≡ 48
    → drop (end - 48 + from) (put_mid (end - 48) (end - (end - 48)) line text) ≡ drop from text ++ drop end line
whole line text end from room inside begins long =
    let start = end - 48 in
    ap (λ l. drop (start + from) (take start line ++ (text ++ l))) (Post-is start end line (omega arith))
    ∙ sym (drop-drop from start (take start line ++ (text ++ drop end line)))
    ∙ ap (drop from) (drop_at (take start line) (text ++ drop end line) start (length-take-le start line (omega arith)))
    ∙ drop-append-le from text (drop end line) (omega arith)

pub returns-clause-written : goal.returns-clause-written
returns-clause-written c =
    let front = c.args.self.now in
    let line = c.args.line.now in
    let all : length line ≡ 256 = search rules in
    let long : length front.text ≡ 48 = search rules in
    ap (λ l. drop (c.args.end - 48 + front.from) (put_mid (c.args.end - 48) (c.args.end - (c.args.end - 48)) line l)) c.copy_from_slice.ensures.after
    ∙ whole line front.text c.args.end front.from c.requires.room (omega arith) c.requires.front.inside long
    ∙ ap (λ l. l ++ drop c.args.end line) c.requires.front.says
