use Rattle.std.proofs.Common.{◌≡◌, ℕ, ℤ, pos, ◌-◌, ◌∷◌, ◌<◌, ◌≤◌, ◌++◌, List, [], length, get_or, drop, suc, arith, rules, append_assoc, drop-cons, sym, ap, subst, ◌∙◌, to_z, of_z}
use Rattle.std.specs.Int.{w64}
use Rattle.std.specs.List.{flat_map}
use Rattle.std.specs.Str.{IsAscii}
use Rattle.std.proofs.lemmas.Int.{to_z-of_z}
use Rattle.std.proofs.lemmas.List.{drop_all}
use Rattle.std.proofs.lemmas.List.Concat.{flat_map-cons}
use Rattle.std.proofs.lemmas.Str.{IsAscii-append}
use Rattle.std.proofs.lemmas.Str.Ascii.{IsAscii-nil}
use Rattle.job_texts.specs.Text.{spaced}
use Rattle.job_texts.proofs.narrow.put_numbers.Goals as goal

one_before : (zs : List ℤ) (left : ℕ) → 0 < left → left ≤ length zs → flat_map spaced (drop (left - 1) zs) ≡ spaced (get_or zs (left - 1) (pos 0)) ++ flat_map spaced (drop left zs)
one_before zs left some few =
    let within : left - 1 < length zs = omega arith in
    let next : suc (left - 1) ≡ left = omega arith in
    ap (flat_map spaced) (drop-cons zs (left - 1) (pos 0) within ∙ ap (λ k. get_or zs (left - 1) (pos 0) ∷ drop k zs) next) ∙ flat_map-cons spaced (get_or zs (left - 1) (pos 0)) (drop left zs)

pub loop-left-init : goal.loop-left-init
loop-left-init c =
    let zs = c.args.numbers.now in
    let none : drop (length zs) zs ≡ [] = drop_all (length zs) zs (omega arith) in
    record {
      few = omega arith;
      below = omega arith;
      room = omega arith;
      written = ap (λ l. flat_map spaced l ++ drop c.args.end c.args.line.now) (sym none);
      ascii = subst (λ l. IsAscii (flat_map spaced l)) (sym none) IsAscii-nil;
    }

pub loop-left-preserved : goal.loop-left-preserved
loop-left-preserved c =
    let zs = c.args.numbers.now in
    let left = c.loop-left.left in
    let number = get_or zs (left - 1) (pos 0) in
    let before = one_before zs left (omega arith) (omega arith) in
    let back : to_z w64 (of_z w64 number) ≡ number = to_z-of_z w64 number (search rules) in
    record {
      few = omega arith;
      below = omega arith;
      room = omega arith;
      written =
          c.put_number-start.ensures.written ∙ (λ i. spaced (back i) ++ c.loop-left.invariant.written i)
          ∙ sym (append_assoc (spaced number) (flat_map spaced (drop left zs)) (drop c.args.end c.args.line.now))
          ∙ ap (λ l. l ++ drop c.args.end c.args.line.now) (sym before);
      ascii =
          subst IsAscii (sym before)
          (IsAscii-append (spaced number) (flat_map spaced (drop left zs)) (subst (λ z. IsAscii (spaced z)) back c.put_number-start.ensures.ascii) c.loop-left.invariant.ascii);
    }

pub returns-clause-ascii : goal.returns-clause-ascii
returns-clause-ascii c =
    let all : c.loop-left.left ≡ 0 = omega arith in
    subst (λ k. IsAscii (flat_map spaced (drop k c.args.numbers.now))) all c.loop-left.invariant.ascii
