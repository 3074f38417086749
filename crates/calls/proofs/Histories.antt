-- The promise, from an opening on: call by call through every history.
use Rattle.std.proofs.Common.{◌≡◌, ℕ, Bool, List, [], ◌∷◌, ◌++◌, length, is_ok, IfOk, Some, None, Ok, Err, Option, Result, sym, refl, ap, ◌∙◌, subst, arith}
use Rattle.std.specs.List.{AllByRecursion as Each}
use Rattle.std.proofs.lemmas.List.{nil_from_length}
use Rattle.std.proofs.lemmas.Bool.{false≢true}
use Rattle.std.proofs.lemmas.Option.{none-some}
use Rattle.items.specs.Sameness.{Equivalence}
use Rattle.rows.specs.Promises.{Exactly, SoundRow, sum_of_counts}
use Rattle.rows.proofs.Theorem.{row_promises}
use Rattle.finders.specs.declared.finder.Binding.{Binding}
use Rattle.finders.specs.Lookup.{lookup}
use Rattle.table.specs.Placed.{entries}
use Rattle.calls.specs.declared.refusal.Refusal.{Refusal}
use Rattle.calls.specs.Refusals.{unless_refused, open_refusal}
use Rattle.calls.specs.Reading.{Reading, row_of, Reliable}
use Rattle.calls.specs.Lookups.{place_in}
use Rattle.calls.specs.Calls.{OpenAnswered, Opened}
use Rattle.calls.specs.Conditions.{Openable}
use Rattle.calls.specs.Truth.{OpenTruth}
use Rattle.calls.specs.Sound.{Sound}
use Rattle.calls.specs.History.{Call, hit_call, watched_call, bracket_call, frequent_call, top_call, State, state, Step, counted, Answered, History, Keeps, KeptThroughout, Promise}
use Rattle.calls.proofs.Refusing.{ok_is_not_err, open_means, open_given, size_refuses, capacity_refuses, occupied_refuses}
use Rattle.calls.proofs.ListCalls.{keeps_frequent, keeps_top}
use Rattle.calls.proofs.FinderCalls.{keeps_hit, keeps_watched, keeps_bracket, kept_question}

module _ {S T F : Type 0} (same : T → T → Bool) (laws : Equivalence same) (bindings : F → List (Binding T)) (room : F → ℕ) (lawful : F → Type 0) (reading : Reading S T) (Structured : S → Type 0) (reliable : Reliable reading Structured) where
  -- ---- every call

  keeps : (a : State S F) (call : Call T) (b : State S F) → Answered same bindings room lawful reading a call b → Keeps same bindings room lawful reading Structured a call b
  keeps a (hit_call x r) b answered = keeps_hit same laws bindings room lawful reading Structured reliable a.summary a.finder x r b.summary b.finder answered
  keeps a (watched_call k x r) b answered = keeps_watched same laws bindings room lawful reading Structured reliable a.summary a.finder k x r b.summary b.finder answered
  keeps a (bracket_call x r) b answered =
      subst (Keeps same bindings room lawful reading Structured a (bracket_call x r)) (sym answered.1)
      (keeps_bracket same laws bindings room lawful reading Structured reliable a.summary a.finder x r answered.0)
  keeps a (frequent_call p q lines r lines') b answered =
      subst (Keeps same bindings room lawful reading Structured a (frequent_call p q lines r lines')) (sym answered.1)
      (λ m hits sound. kept_question same bindings room lawful reading Structured m hits a.summary a.finder sound (frequent_call p q lines r lines') refl
      (keeps_frequent same laws reading Structured a.summary p q lines r lines' answered.0 m hits sound.table))
  keeps a (top_call k lines r lines') b answered =
      subst (Keeps same bindings room lawful reading Structured a (top_call k lines r lines')) (sym answered.1)
      (λ m hits sound. kept_question same bindings room lawful reading Structured m hits a.summary a.finder sound (top_call k lines r lines') refl
      (keeps_top same laws reading Structured a.summary k lines r lines' answered.0 m hits sound.table))

  -- ---- every history

  throughout : (m : ℕ) (steps : List (Step S T F)) (hits : List T) (a : State S F) → Sound same bindings room lawful reading Structured m hits a.summary a.finder →
      History same bindings room lawful reading a steps → KeptThroughout same bindings room lawful reading Structured m hits a steps
  throughout m [] hits a sound history = sound
  throughout m (one ∷ steps) hits a sound history =
      let kept = keeps a one.call one.after history.0 m hits sound in
      (sound, kept, throughout m steps (hits ++ counted one.call) one.after kept.sound history.1)

  module _ (fresh : (f : F) → length (bindings f) ≡ 0 → lawful f) where
    sound_opened : (m : ℕ) (s : S) (f : F) → Openable m (room f) (length (bindings f)) → Opened reading m s → Sound same bindings room lawful reading Structured m [] s f
    sound_opened m s f can opened =
        let rows = row_promises same laws m can.sized.some [] in
        let row : row_of reading s ≡ [] = ap entries opened.empty in
        let none : reading.used s ≡ 0 = reliable.used s ∙ ap length opened.empty in
        record {
          table = record {
            sized = can.sized;
            size = opened.size;
            row = row;
            used = none;
            total = opened.total;
            countable = omega arith;
            adds_up = ap sum_of_counts row ∙ sym opened.total;
            in_order = subst (SoundRow same m 0) (sym row) rows.sound;
            seated = reliable.seated s;
            structured = reliable.structured s;
          };
          own = subst (λ row. Each (λ e. lookup same (bindings f) e.entry.item ≡ Some e.place) row) (sym opened.empty) tt;
          finds = λ x. ap (λ bs. lookup same bs x) (nil_from_length (bindings f) can.empty) ∙ ap (λ row. place_in same row x) (sym opened.empty);
          held = can.empty ∙ sym none;
          fits = can.fits;
          is_lawful = fresh f can.empty;
        }

    open_truth : (m : ℕ) (f : F) (r : Result (Unit {0}) Refusal) → OpenAnswered bindings room m f r → Exactly (is_ok r) (Openable m (room f) (length (bindings f))) → OpenTruth m (room f) (length (bindings f)) r
    open_truth m f r answered exactly =
        let held = length (bindings f) in
        record {
          accepted = exactly;
          off_size = λ not. answered ∙ ap unless_refused (size_refuses m (room f) held not);
          off_capacity = λ h less. answered ∙ ap unless_refused (capacity_refuses m (room f) held h less);
          occupied = λ h fits more. answered ∙ ap unless_refused (occupied_refuses m (room f) held h fits more);
        }

    opens_exactly : (m : ℕ) (f : F) (r : Result (Unit {0}) Refusal) (refusal : Option Refusal) → open_refusal m (room f) (length (bindings f)) ≡ refusal →
        r ≡ unless_refused refusal → Exactly (is_ok r) (Openable m (room f) (length (bindings f))) × IfOk r (λ _. Openable m (room f) (length (bindings f)))
    opens_exactly m f (Ok a) (Some why) is u = absurd (ok_is_not_err u)
    opens_exactly m f (Ok a) None is u =
        let can = open_means m (room f) (length (bindings f)) is in
        (record { means = λ _. can; given = λ _. refl }, can)
    opens_exactly m f (Err other) (Some why) is u =
        (record { means = λ t. absurd (false≢true t); given = λ can. absurd (none-some why (sym (open_given m (room f) (length (bindings f)) can) ∙ is)) }, tt)
    opens_exactly m f (Err other) None is u = absurd (ok_is_not_err (sym u))

    from_opened : (m : ℕ) (f : F) (r : Result (Unit {0}) Refusal) → IfOk r (λ _. Openable m (room f) (length (bindings f))) →
        IfOk r (λ _. (s : S) → Opened reading m s → (steps : List (Step S T F)) → History same bindings room lawful reading (state s f) steps → KeptThroughout same bindings room lawful reading Structured m [] (state s f) steps)
    from_opened m f (Ok a) can = λ s opened steps history. throughout m steps [] (state s f) (sound_opened m s f can opened) history
    from_opened m f (Err why) can = tt

    pub promise : Promise same bindings room lawful reading Structured
    promise m f r answered =
        let both = opens_exactly m f r (open_refusal m (room f) (length (bindings f))) refl answered in
        record { opening = open_truth m f r answered both.0; throughout = from_opened m f r both.1 }
