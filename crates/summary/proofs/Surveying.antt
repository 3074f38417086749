-- What walks over the first positions find there.
use Rattle.std.proofs.Common.{◌≡◌, Bool, false, ◌||◌, List, [], ◌∷◌, Some, None, refl, sym, ap, ◌∙◌}
use Rattle.std.proofs.Math.Bool.{or_assoc, or-false}
use Rattle.std.specs.List.{fold, list_any}
use Rattle.rows.proofs.Sameness.{some_first}
use Rattle.rows.specs.declared.entry.Entry.{Entry}
use Rattle.rows.specs.Row.{entry_of}
use Rattle.rows.specs.Questions.{listed}
use Rattle.calls.specs.Watching.{last_item}
use Rattle.summary.specs.declared.leaders.Standing.{Standing}

module _ {T : Type 0} where
  -- One of some entries holds the item where the item is listed.
  pub any_listed : (same : T → T → Bool) (x : T) (es : List (Entry T)) → list_any (λ e. same e.item x) es ≡ listed same x es
  any_listed same x [] = refl
  any_listed same x (e ∷ es) = ap (λ b. same e.item x || b) (any_listed same x es) ∙ sym (some_first (same e.item x) e (entry_of same x es))

  -- How an item stands to no position.
  abbrev pub none_passed : Standing T
  none_passed = record { leads = false; last = None }

  -- How it stands to the positions passed, with one more.
  abbrev pub passing : (same : T → T → Bool) (x : T) → Standing T → Entry T → Standing T
  passing same x s e = record { leads = s.leads || same e.item x; last = Some e.item }

  pub fold_leads : (same : T → T → Bool) (x : T) (s : Standing T) (es : List (Entry T)) → (fold (passing same x) s es).leads ≡ s.leads || listed same x es
  fold_leads same x s [] = sym (or-false s.leads)
  fold_leads same x s (e ∷ es) =
      fold_leads same x (passing same x s e) es ∙ or_assoc s.leads (same e.item x) (listed same x es) ∙ ap (λ b. s.leads || b) (sym (some_first (same e.item x) e (entry_of same x es)))

  fold_last_more : (same : T → T → Bool) (x : T) (s : Standing T) (e : Entry T) (es : List (Entry T)) → (fold (passing same x) s (e ∷ es)).last ≡ last_item (e ∷ es)
  fold_last_more same x s e [] = refl
  fold_last_more same x s e (f ∷ es) = fold_last_more same x (passing same x s e) f es

  pub fold_last : (same : T → T → Bool) (x : T) (es : List (Entry T)) → (fold (passing same x) none_passed es).last ≡ last_item es
  fold_last same x [] = refl
  fold_last same x (e ∷ es) = fold_last_more same x none_passed e es
