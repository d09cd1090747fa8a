use Rattle.std.proofs.Common.{arith, ◌≡◌, ◌+◌, ◌-◌, ◌++◌, ◌∷◌, List, ℕ, [], length, take, ap, ◌∙◌, length-append}
use Rattle.std.proofs.Math.Seq.{take-append_seam}
use Rattle.std.proofs.lemmas.Slice.{take-put_mid}
use Rattle.instant_texts.proofs.seconds.joined.Goals as goal

pub returns : goal.returns
returns c =
    let zeros : List ℕ = 0 ∷ 0 ∷ 0 ∷ 0 ∷ 0 ∷ 0 ∷ [] in
    let first = c.copy_from_slice.ensures.after in
    let second = c.copy_from_slice-2.ensures.after in
    let size : length c.copy_from_slice.new.self ≡ 19 = ap length first ∙ c.requires.clock in
    let long = length-append c.copy_from_slice.new.self zeros in
    let more = ap length second in
    let put = take-put_mid 19 (19 + length c.args.zone.now - 19) (c.copy_from_slice.new.self ++ zeros) c.copy_from_slice-2.new.self (19 + length c.args.zone.now) (omega arith) (omega arith) in
    let front : take 19 (c.copy_from_slice.new.self ++ zeros) ≡ c.copy_from_slice.new.self = rw (size) at (take-append_seam c.copy_from_slice.new.self zeros) in
    put ∙ ap (λ (l : List ℕ). l ++ c.copy_from_slice-2.new.self) (front ∙ first) ∙ ap (λ (l : List ℕ). c.args.clock.now ++ l) second
