use Rattle.std.proofs.Common.{Bool, ℕ, ◌∷◌, [], true, false, not, refl, Option, None, ◌≡◌, ◌∙◌, ◌+◌, ◌++◌, ℤ, List, map, Some, cond, length, replicate, pos, sym, ap, subst}
use Rattle.std.specs.Prelude.{IfSome, IfNone}
use Rattle.std.specs.Option.{is_some, option_or}
use Rattle.std.proofs.lemmas.List.{with_items_is}
use Rattle.plan_model.specs.declared.spec.Aggregate.{Aggregate}
use Rattle.aggregates.specs.declared.kind.Kind.{Kind}
use Rattle.aggregates.specs.Kinds.{AccData, IsAcc, kind_of}
use Rattle.savepoint_codec.specs.EntriesData.{EntryData}
use Rattle.savepoint_codec.specs.EntriesView.{entry_data}
use Rattle.packed_parts.specs.Packing.{part_of}
use Rattle.window_state.specs.Windows.{acc_at, is_pane}
use Rattle.place_words.specs.Words.{stride, acc_in, entries_in, IsWritten}
use Rattle.window_state.specs.Places.{PlacesData, ArePlaces}
use Rattle.window_state.proofs.Spread.{found-any, pushes_place}
use Rattle.std.specs.List.{list_any}
use Rattle.plan_model.specs.declared.spec.Pane.{Pane}
use Rattle.window_state.specs.declared.places.Places.TheInside.{Inside}
use Rattle.window_state.proofs.Entries.{none_there}
use Rattle.window_state.proofs.Updates.{pane_from_test}
use Rattle.window_state.proofs.Placed.{kinds_of, few_words, kept_pushed, on_err}
use Rattle.window_state.proofs.places.Places.put_entry.Goals as goal

given : {X : Type 0} (P : X → Type 0) (o : Option X) (x : X) → o ≡ Some x → IfSome o P → P x
given P o x is h = subst (λ p. IfSome p P) is h

-- a pane that is none of those with a place has none
not_there : (s : Inside) (p : Pane) → not (list_any (is_pane p) s.panes.keys) ≡ true → acc_at (entries_in (kinds_of s.window) s.words.items 0 s.panes.keys) p ≡ None
not_there s p h = none_there _ (found-any (kinds_of s.window) s.words.items 0 s.panes.keys p ∙ not_true (list_any (is_pane p) s.panes.keys) h)
  where
    not_true : (b : Bool) → not b ≡ true → b ≡ false
    not_true true e = absurd (let no : false ≡ true = e in cc)
    not_true false e = refl

-- what was there stays, and a pane that had nothing has what is put there
or_put : (b : Bool) (a : AccData) (o : Option AccData) → (b ≡ true → o ≡ None) → cond b (Some a) o ≡ option_or o (cond b (Some a) None)
or_put true a o h = sym (ap (λ x. option_or x (Some a)) (h refl))
or_put false a None h = refl
or_put false a (Some x) h = refl

-- a pane that has something keeps it
or_kept : (b : Bool) (a : AccData) (o : Option AccData) → (b ≡ true → is_some o ≡ true) → o ≡ option_or o (cond b (Some a) None)
or_kept b a (Some x) h = refl
or_kept true a None h = absurd (let no : false ≡ true = h refl in cc)
or_kept false a None h = refl

pub new_place-requires : goal.new_place-requires
new_place-requires c = record { small = few_words c.self.inside.window c.self.inside.stride c.self.invariant.operator c.self.invariant.stride }

-- what the entry says, by the kinds that stand inside
abbrev entry_acc : (ks : List Kind) (e : EntryData) → AccData
entry_acc ks e = (part_of ks e).acc

kinds_inside : (v w : PlacesData) → v ≡ w → kinds_of v.window ≡ kinds_of w.window
kinds_inside v w is = ap (λ (x : PlacesData). kinds_of x.window) is

pub write_entry-requires-clause-sound : goal.write_entry-requires-clause-sound
write_entry-requires-clause-sound c =
    let kinds = ap (map kind_of) c.as_slice-aggregates.ensures ∙ kinds_inside _ _ c.self.view_is in
    subst IsAcc (λ t. record { kinds = sym kinds t; total = record { count = c.args.entry.count; numbers = (entry_data c.args.entry).total.numbers } }) c.requires.sound

pub invariant_of-self : goal.invariant_of-self
invariant_of-self c =
    let s = c.self.inside in
    subst (λ ps. ArePlaces s.window s.stride ps c.new_place.new.words.items) (sym c.in_err-at.ensures.panes_err)
    (subst (ArePlaces s.window s.stride s.panes.keys) (sym c.in_err-at.ensures.words_err) c.self.invariant)

pub returns-in_err-at-clause-err : goal.returns-in_err-at-clause-err
returns-in_err-at-clause-err c =
    let s = c.self.inside in
    on_err c.from_residual.result
    ((λ t. record { window = s.window; entries = entries_in (kinds_of s.window) (c.in_err-at.ensures.words_err t) 0 (c.in_err-at.ensures.panes_err t) }) ∙ c.self.view_is)

pub invariant_of-self-2 : goal.invariant_of-self-2
invariant_of-self-2 c =
    let s = c.self.inside in
    let w = s.window in
    let ks = kinds_of w in
    let p = c.args.entry.pane in
    let ws = s.words.items in
    let new = c.write_entry.new.words in
    let qs = c.new_place.new.panes.keys in
    let at = (given (λ (z : ℕ). z ≡ length s.words.items) c.in_ok-at.field-0 c.in-Some.at c.in-Some.is c.in_ok-at.ensures.at) in
    let e = c.as_slice-aggregates.ensures in
    let zs = replicate s.stride (pos 0) in
    let others : IsWritten (length ws) (length ws + stride ks) (ws ++ zs) new =
    subst (λ (l : List ℤ). IsWritten (length ws) (length ws + stride ks) l new) (c.as_mut_slice-words.ensures.value ∙ (given (λ (z : ℕ). c.new_place.new.words.items ≡ s.words.items ++ replicate s.stride (pos 0)) c.in_ok-at.field-0 c.in-Some.at c.in-Some.is c.in_ok-at.ensures.words))
    (subst (λ x. IsWritten x (x + stride ks) c.as_mut_slice-words.result.now new) at
    (subst (λ (l : List Aggregate). IsWritten c.in-Some.at (c.in-Some.at + stride (map kind_of l)) c.as_mut_slice-words.result.now new) e c.write_entry.ensures.others)) in
    let made : acc_in ks new (length ws) ≡ entry_acc (kinds_of c.args.self.now.window) (entry_data c.args.entry) = (λ t. acc_in (map kind_of (sym e t)) new (sym at t)) ∙ c.write_entry.ensures.written
    ∙ (λ t. record { kinds = (ap (map kind_of) e ∙ kinds_inside _ _ c.self.view_is) t; total = record { count = c.args.entry.count; numbers = (entry_data c.args.entry).total.numbers } }) in
    let absent = not_there s p (sym c.in_ok-at.ensures.absent ∙ ap is_some c.in-Some.is) in
    let writes = pushes_place ks ws new zs s.panes.keys qs s.stride p c.self.invariant.stride c.self.invariant.len (given (λ (z : ℕ). c.new_place.new.panes.keys ≡ s.panes.keys ++ c.args.entry.pane ∷ []) c.in_ok-at.field-0 c.in-Some.at c.in-Some.is c.in_ok-at.ensures.panes) c.in_ok-at.ensures.unique absent others in
    let got = with_items_is c.new_place.new.words new (c.write_entry.ensures.others.len ∙ c.as_mut_slice-words.ensures.len) in
    subst (ArePlaces w s.stride qs) (sym got)
    (kept_pushed w s.stride s.panes.keys qs ws new p c.self.invariant (given (λ (z : ℕ). c.new_place.new.panes.keys ≡ s.panes.keys ++ c.args.entry.pane ∷ []) c.in_ok-at.field-0 c.in-Some.at c.in-Some.is c.in_ok-at.ensures.panes) writes others (subst IsAcc (sym made) c.requires.sound) c.requires.start)

pub returns-clause-put : goal.returns-clause-put
returns-clause-put c = λ q.
    let s = c.self.inside in
    let ks = kinds_of s.window in
    let p = c.args.entry.pane in
    let ws = s.words.items in
    let new = c.write_entry.new.words in
    let qs = c.new_place.new.panes.keys in
    let at = (given (λ (z : ℕ). z ≡ length s.words.items) c.in_ok-at.field-0 c.in-Some.at c.in-Some.is c.in_ok-at.ensures.at) in
    let e = c.as_slice-aggregates.ensures in
    let zs = replicate s.stride (pos 0) in
    let m = entries_in ks ws 0 s.panes.keys in
    let others : IsWritten (length ws) (length ws + stride ks) (ws ++ zs) new =
    subst (λ (l : List ℤ). IsWritten (length ws) (length ws + stride ks) l new) (c.as_mut_slice-words.ensures.value ∙ (given (λ (z : ℕ). c.new_place.new.words.items ≡ s.words.items ++ replicate s.stride (pos 0)) c.in_ok-at.field-0 c.in-Some.at c.in-Some.is c.in_ok-at.ensures.words))
    (subst (λ x. IsWritten x (x + stride ks) c.as_mut_slice-words.result.now new) at
    (subst (λ (l : List Aggregate). IsWritten c.in-Some.at (c.in-Some.at + stride (map kind_of l)) c.as_mut_slice-words.result.now new) e c.write_entry.ensures.others)) in
    let made : acc_in ks new (length ws) ≡ entry_acc (kinds_of c.args.self.now.window) (entry_data c.args.entry) = (λ t. acc_in (map kind_of (sym e t)) new (sym at t)) ∙ c.write_entry.ensures.written
    ∙ (λ t. record { kinds = (ap (map kind_of) e ∙ kinds_inside _ _ c.self.view_is) t; total = record { count = c.args.entry.count; numbers = (entry_data c.args.entry).total.numbers } }) in
    let absent = not_there s p (sym c.in_ok-at.ensures.absent ∙ ap is_some c.in-Some.is) in
    let writes = pushes_place ks ws new zs s.panes.keys qs s.stride p c.self.invariant.stride c.self.invariant.len (given (λ (z : ℕ). c.new_place.new.panes.keys ≡ s.panes.keys ++ c.args.entry.pane ∷ []) c.in_ok-at.field-0 c.in-Some.at c.in-Some.is c.in_ok-at.ensures.panes) c.in_ok-at.ensures.unique absent others in
    let got = with_items_is c.new_place.new.words new (c.write_entry.ensures.others.len ∙ c.as_mut_slice-words.ensures.len) in
    let v = c.args.self.now in
    let view = ap (λ (x : PlacesData). acc_at x.entries q) c.self.view_is in
    let a = entry_acc (kinds_of v.window) (entry_data c.args.entry) in
    let none = λ (e : is_pane p q ≡ true). subst (λ (x : Pane). acc_at m x ≡ None) (pane_from_test p q e) absent in
    ap (λ l. acc_at (entries_in ks l 0 qs) q) got
    ∙ writes.at q
    ∙ (λ t. cond (is_pane p q) (Some (made t)) (acc_at m q))
    ∙ or_put (is_pane p q) a (acc_at m q) none
    ∙ ap (λ o. option_or o (cond (is_pane p q) (Some a) None)) view

pub returns-in_default-clause-put : goal.returns-in_default-clause-put
returns-in_default-clause-put c = λ q.
    let s = c.self.inside in
    let ks = kinds_of s.window in
    let p = c.args.entry.pane in
    let v = c.args.self.now in
    let panes : c.new_place.new.panes.keys ≡ s.panes.keys = subst (λ o. IfNone o (c.new_place.new.panes.keys ≡ s.panes.keys)) c.in_default.is c.in_ok-at.ensures.panes_stay in
    let words : c.new_place.new.words.items ≡ s.words.items = subst (λ o. IfNone o (c.new_place.new.words.items ≡ s.words.items)) c.in_default.is c.in_ok-at.ensures.words_stay in
    let has : is_some (acc_at v.entries p) ≡ true =
    ap (λ (x : PlacesData). is_some (acc_at x.entries p)) (sym c.self.view_is) ∙ found-any ks s.words.items 0 s.panes.keys p
    ∙ it_is (list_any (is_pane p) s.panes.keys) (sym (ap is_some (sym c.in_default.is) ∙ c.in_ok-at.ensures.absent)) in
    (λ t. acc_at (entries_in ks (words t) 0 (panes t)) q) ∙ ap (λ (x : PlacesData). acc_at x.entries q) c.self.view_is
    ∙ or_kept (is_pane p q) (entry_acc (kinds_of v.window) (entry_data c.args.entry)) (acc_at v.entries q) (λ e. subst (λ (x : Pane). is_some (acc_at v.entries x) ≡ true) (pane_from_test p q e) has)
  where
    it_is : (b : Bool) → not b ≡ false → b ≡ true
    it_is true e = refl
    it_is false e = absurd (let no : true ≡ false = e in cc)
