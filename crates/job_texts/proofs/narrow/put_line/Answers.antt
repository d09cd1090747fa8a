use Rattle.std.proofs.Common.{◌≡◌, ℕ, ℤ, List, [], ◌∷◌, ◌++◌, ◌∙◌, append_assoc, sym, ap, subst, length, drop, set, arith, rules, to_z, of_z, FitsSigned}
use Rattle.std.specs.Int.{w64}
use Rattle.std.specs.List.{flat_map}
use Rattle.std.specs.Fmt.{signed_decimal}
use Rattle.std.specs.Str.{IsAscii}
use Rattle.std.proofs.lemmas.Int.{to_z-of_z}
use Rattle.std.proofs.lemmas.List.{drop-set, drop_all, drop-drop}
use Rattle.std.proofs.lemmas.Str.{IsAscii-append, IsAscii-drop}
use Rattle.std.proofs.lemmas.Str.Ascii.{IsAscii-nil, IsAscii-cons}
use Rattle.job_texts.specs.Text.{spaced}
use Rattle.job_texts.proofs.narrow.put_line.Goals as goal

-- a number of 64 bits, as its bits give it back
back : (z : ℤ) → FitsSigned w64 z → to_z w64 (of_z w64 z) ≡ z
back z h = to_z-of_z w64 z h

line_feed : (line : List ℕ) → length line ≡ 256 → drop 255 (set line 255 10) ≡ 10 ∷ []
line_feed line all = drop-set line 255 10 (omega arith) ∙ ap (λ l. 10 ∷ l) (drop_all 256 line (omega arith))

four : (a k v n : List ℕ) → a ++ (k ++ (v ++ n)) ≡ ((a ++ k) ++ v) ++ n
four a k v n = sym (append_assoc (a ++ k) v n ∙ append_assoc a k (v ++ n))

pub returns-clause-written : goal.returns-clause-written
returns-clause-written c =
    let row = c.args.row.now in
    let turned = c.turn_to.ensures in
    let all : length c.args.line.now ≡ 256 = search rules in
    let values = c.put_numbers-start.ensures.written ∙ (λ i. flat_map spaced (c.requires.same i) ++ line_feed c.args.line.now all i) in
    let key = c.put_number-start.ensures.written ∙ (λ i. spaced (back row.key (search rules) i) ++ values i) in
    let front = c.put.ensures.written ∙ (λ i. (spaced (turned.start i) ++ spaced (turned.end i)) ++ key i) in
    sym (drop-drop 1 c.put.result c.put.new.line) ∙ ap (drop 1) front
    ∙ four (signed_decimal row.start ++ spaced row.end) (spaced row.key) (flat_map spaced row.values) (10 ∷ [])

pub returns-clause-ascii : goal.returns-clause-ascii
returns-clause-ascii c =
    let row = c.args.row.now in
    let turned = c.turn_to.ensures in
    let front : IsAscii (spaced row.start ++ spaced row.end) =
    subst (λ z. IsAscii (spaced row.start ++ spaced z)) turned.end
    (subst (λ z. IsAscii (spaced z ++ spaced c.turn_to.new.self.end)) turned.start turned.front.ascii) in
    let key : IsAscii (spaced row.key) = subst (λ z. IsAscii (spaced z)) (back row.key (search rules)) c.put_number-start.ensures.ascii in
    let values : IsAscii (flat_map spaced row.values) = subst (λ zs. IsAscii (flat_map spaced zs)) c.requires.same c.put_numbers-start.ensures.ascii in
    IsAscii-append _ (10 ∷ [])
    (IsAscii-append _ (flat_map spaced row.values)
    (IsAscii-append (signed_decimal row.start ++ spaced row.end) (spaced row.key) (IsAscii-drop (spaced row.start ++ spaced row.end) 1 front) key) values)
    (IsAscii-cons 10 [] (omega arith) IsAscii-nil)
