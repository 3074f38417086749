-- Hits, watched hits and brackets keep the promise: in a sound state the finder is never foreign, the answer is true,
-- and the state after is sound.
use Rattle.std.proofs.Common.{◌≡◌, ℕ, ◌<◌, ◌≤◌, Bool, false, List, [], ◌∷◌, ◌++◌, length, IfOk, Some, None, Ok, Err, Option, Result, sym, refl, ap, ◌∙◌, subst, subst₂, append-nil, arith, length-append}
use mathlib.Core.Path.{fun_ext}
use lib.ListN.{length-map}
use Rattle.std.specs.List.{AllByRecursion as Each}
use Rattle.std.proofs.ByRecursion.{All-weaker}
use Rattle.items.specs.Sameness.{Equivalence}
use Rattle.rows.specs.Row.{row_after, hit}
use Rattle.rows.specs.Questions.{outside, bracket_at, bracket, watched}
use Rattle.rows.specs.Promises.{SoundRow, KeptPromises, TrueBracket}
use Rattle.rows.proofs.Rows.{row_after_one_more}
use Rattle.rows.proofs.Theorem.{row_promises}
use Rattle.finders.specs.declared.finder.Binding.{Binding}
use Rattle.finders.specs.Lookup.{lookup}
use Rattle.table.specs.Placed.{entries, places, step}
use Rattle.calls.specs.declared.refusal.Refusal.{Refusal}
use Rattle.calls.specs.declared.refusal.Refusal.TheVariants.{Limit, Rank}
use Rattle.calls.specs.Refusals.{limit, rank, if_foreign, Unless}
use Rattle.calls.specs.Reading.{Reading, row_of, FirstPlaces, Reliable}
use Rattle.calls.specs.Lookups.{place_in, find_after, held_count_after}
use Rattle.calls.specs.Foreign.{foreign_place, foreign_hit}
use Rattle.calls.specs.Calls.{entry_at, Unchanged, Accepted, is_foreign, HitEnds, HitAnswered, WatchedAnswered, BracketAnswered}
use Rattle.calls.specs.Conditions.{Ranked}
use Rattle.calls.specs.Truth.{TrueWatching, BracketTruth}
use Rattle.calls.specs.Sound.{Sound}
use Rattle.calls.specs.History.{Call, hit_call, watched_call, bracket_call, state, unless_error, counted, Truthful, Kept, Keeps}
use Rattle.calls.proofs.Stepping.{all_differ, own_places, entries_step, held_step, finds_step, own_place, own_hit, own_entry}
use Rattle.calls.proofs.Refusing.{ok_is_not_err, answers_refusal, unless_weaker, accepted_exactly, never_foreign, made_if_accepted, limit_means, limit_given, limit_refuses, rank_means, rank_passes, rank_refuses, limit_is_another, rank_is_another}

-- A question leaves the state as it was, and adds no hit.
module _ {S T F : Type 0} (same : T → T → Bool) (bindings : F → List (Binding T)) (room : F → ℕ) (lawful : F → Type 0) (reading : Reading S T) (Structured : S → Type 0) where
  pub kept_question : (m : ℕ) (hits : List T) (s : S) (f : F) → Sound same bindings room lawful reading Structured m hits s f → (call : Call T) → counted call ≡ [] → Truthful same m hits call →
      Kept same bindings room lawful reading Structured m hits (state s f) call (state s f)
  kept_question m hits s f sound call none truthful = record {
    truthful = truthful;
    sound = subst (λ hs. Sound same bindings room lawful reading Structured m hs s f) (sym (ap (λ (added : List T). hits ++ added) none ∙ append-nil hits)) sound;
    unchanged = λ _. refl;
  }

module _ {S T F : Type 0} (same : T → T → Bool) (laws : Equivalence same) (bindings : F → List (Binding T)) (room : F → ℕ) (lawful : F → Type 0) (reading : Reading S T) (Structured : S → Type 0) (reliable : Reliable reading Structured) where
  module _ (m : ℕ) (hits : List T) (s : S) (f : F) (sound : Sound same bindings room lawful reading Structured m hits s f) where
    rows : (later : List T) → KeptPromises same m later
    rows later = row_promises same laws m sound.table.sized.some later

    seated : FirstPlaces (length (reading.placed s)) (places (reading.placed s))
    seated = subst (λ u. FirstPlaces u (places (reading.placed s))) (reliable.used s) (reliable.seated s)

    some : 1 ≤ reading.size s
    some = omega (arith, sound.table.sized.some, sound.table.size)

    finding : lookup same (bindings f) ≡ place_in same (reading.placed s)
    finding = fun_ext sound.finds

    holding : length (bindings f) ≡ length (reading.placed s)
    holding = sound.held ∙ reliable.used s

    module _ (x : T) where
      -- The row after an accepted hit is the row machine's.
      row_hit : entries (step (reading.size s) (reading.placed s) x (lookup same (bindings f) x)) ≡ row_after same m (hits ++ x ∷ [])
      row_hit =
          ap (λ o. entries (step (reading.size s) (reading.placed s) x o)) (sound.finds x) ∙
          entries_step same laws (reading.size s) some (reading.placed s) seated x (place_in same (reading.placed s) x) refl ∙
          ap (λ n. hit same n (row_of reading s) x) sound.table.size ∙
          ap (λ row. hit same m row x) sound.table.row ∙
          sym (row_after_one_more same m hits x)

      -- An accepted hit leaves a sound state.
      module _ (s' : S) (f' : F) (did : Accepted same bindings room lawful reading s f x s' f') where
        row_now : row_of reading s' ≡ row_after same m (hits ++ x ∷ [])
        row_now = ap entries did.placed ∙ row_hit

        placed_after : reading.placed s' ≡ step (reading.size s) (reading.placed s) x (place_in same (reading.placed s) x)
        placed_after = did.placed ∙ ap (step (reading.size s) (reading.placed s) x) (sound.finds x)

        in_order_after : SoundRow same m (length (hits ++ x ∷ [])) (row_of reading s')
        in_order_after = subst (SoundRow same m (length (hits ++ x ∷ []))) (sym row_now) (rows (hits ++ x ∷ [])).sound

        total_after : reading.total s' ≡ length (hits ++ x ∷ [])
        total_after = omega (arith, did.total, sound.table.total, length-append hits (x ∷ []))

        finds_after : (y : T) → lookup same (bindings f') y ≡ place_in same (reading.placed s') y
        finds_after y =
            did.finds y ∙ ap (λ find. find_after same (reading.size s) (reading.placed s) x (find x) find y) finding ∙
            sym (finds_step same laws (reading.size s) some (reading.placed s) seated x (all_differ same (reading.placed s) sound.table.in_order.apart) (place_in same (reading.placed s) x) refl y) ∙
            ap (λ row. place_in same row y) (sym placed_after)

        own_after : Each (λ e. lookup same (bindings f') e.entry.item ≡ Some e.place) (reading.placed s')
        own_after =
            All-weaker (λ e. place_in same (reading.placed s') e.entry.item ≡ Some e.place) (λ e. lookup same (bindings f') e.entry.item ≡ Some e.place) (λ e is. finds_after e.entry.item ∙ is) (reading.placed s')
            (own_places same laws (reading.placed s') (all_differ same (reading.placed s') in_order_after.apart))

        held_after : length (bindings f') ≡ reading.used s'
        held_after =
            did.held ∙ ap (λ o. held_count_after (reading.size s) (reading.placed s) o (length (bindings f))) (sound.finds x) ∙
            ap (held_count_after (reading.size s) (reading.placed s) (place_in same (reading.placed s) x)) holding ∙
            held_step same laws (reading.size s) some (reading.placed s) seated x (place_in same (reading.placed s) x) refl ∙
            ap length (sym placed_after) ∙ sym (reliable.used s')

        sound_accepted : length hits < 4294967295 → Sound same bindings room lawful reading Structured m (hits ++ x ∷ []) s' f'
        sound_accepted below = record {
          table = record {
            sized = sound.table.sized;
            size = did.size ∙ sound.table.size;
            row = row_now;
            used = reliable.used s' ∙ sym (length-map (reading.placed s') (λ e. e.entry)) ∙ ap length row_now;
            total = total_after;
            countable = omega (arith, length-append hits (x ∷ []));
            adds_up = in_order_after.adds_up ∙ sym total_after;
            in_order = in_order_after;
            seated = reliable.seated s';
            structured = reliable.structured s';
          };
          own = own_after;
          finds = finds_after;
          held = held_after;
          fits = omega (arith, sound.fits, did.fits);
          is_lawful = did.still_lawful;
        }

      -- The finder is not foreign.
      own_finder : is_foreign same bindings room lawful reading s f x ≡ false
      own_finder =
          ap (λ find. foreign_hit same (reading.size s) (reading.used s) (reading.placed s) (length (bindings f)) (room f) find x (find x)) finding ∙
          ap (λ n. foreign_hit same (reading.size s) (reading.used s) (reading.placed s) n (room f) (place_in same (reading.placed s)) x (place_in same (reading.placed s) x)) holding ∙
          ap (λ u. foreign_hit same (reading.size s) u (reading.placed s) (length (reading.placed s)) (room f) (place_in same (reading.placed s)) x (place_in same (reading.placed s) x)) (reliable.used s) ∙
          own_hit same laws (reading.size s) some (reading.placed s) seated x (room f) (omega (arith, sound.fits, sound.table.size)) (place_in same (reading.placed s) x) refl

      -- So a hit is refused for what needs no finder, or accepted.
      hit_ends : {Answer : Type 0} (refusal : Option Refusal) (a : Answer) (r : Result Answer Refusal) (s' : S) (f' : F) → HitEnds same bindings room lawful reading refusal a s f x r s' f' →
          Unless refusal r (Unchanged s f s' f') ((r ≡ Ok a) × Accepted same bindings room lawful reading s f x s' f')
      hit_ends refusal a r s' f' ends =
          let accepted : Type 0 = (r ≡ Ok a) × Accepted same bindings room lawful reading s f x s' f' in
          unless_weaker r (Unchanged s f s' f') (lawful f → Unless (if_foreign (is_foreign same bindings room lawful reading s f x)) r (Unchanged s f s' f') accepted) (Unchanged s f s' f') accepted
          (λ u. u) (λ d. subst (λ b. Unless (if_foreign b) r (Unchanged s f s' f') accepted) own_finder (d sound.is_lawful)) refusal ends

      sound_after : {Answer : Type 0} (refusal : Option Refusal) (a : Answer) (r : Result Answer Refusal) (s' : S) (f' : F) → (refusal ≡ None → length hits < 4294967295) →
          Unless refusal r (Unchanged s f s' f') ((r ≡ Ok a) × Accepted same bindings room lawful reading s f x s' f') → Sound same bindings room lawful reading Structured m (hits ++ unless_error x r) s' f'
      sound_after (Some why) a (Ok b) s' f' below u = absurd (ok_is_not_err u.0)
      sound_after (Some why) a (Err w) s' f' below u =
          subst (λ hs. Sound same bindings room lawful reading Structured m hs s' f') (sym (append-nil hits))
          (subst₂ (λ t g. Sound same bindings room lawful reading Structured m hits t g) (sym u.1.summary) (sym u.1.finder) sound)
      sound_after None a (Ok b) s' f' below u = sound_accepted s' f' u.1 (below refl)
      sound_after None a (Err w) s' f' below u = absurd (ok_is_not_err (sym u.0))

      -- A refused hit leaves everything as it was.
      unchanged_after : {Answer : Type 0} (refusal : Option Refusal) (a : Answer) (r : Result Answer Refusal) (s' : S) (f' : F) →
          Unless refusal r (Unchanged s f s' f') ((r ≡ Ok a) × Accepted same bindings room lawful reading s f x s' f') → unless_error x r ≡ [] → state s' f' ≡ state s f
      unchanged_after (Some why) a r s' f' u none = ap (λ t. state t f') u.1.summary ∙ ap (state s) u.1.finder
      unchanged_after None a r s' f' u none = absurd (let no_hit : x ∷ [] ≡ [] = sym (ap (unless_error x) u.0) ∙ none in cc)

      -- ---- hits

      module _ (s' : S) (f' : F) where
        kept_hit : (r : Result (Unit {0}) Refusal) → HitAnswered same bindings room lawful reading s f x r s' f' → Kept same bindings room lawful reading Structured m hits (state s f) (hit_call x r) (state s' f')
        kept_hit r answered =
            let ends = subst (λ n. Unless (limit n None) r (Unchanged s f s' f') ((r ≡ Ok tt) × Accepted same bindings room lawful reading s f x s' f')) sound.table.total (hit_ends (limit (reading.total s) None) tt r s' f' answered) in
            let defined = unless_weaker r (Unchanged s f s' f') ((r ≡ Ok tt) × Accepted same bindings room lawful reading s f x s' f') (Unit {0}) (r ≡ Ok tt) (λ _. tt) (λ d. d.0) (limit (length hits) None) ends in
            record {
              truthful = record {
                defined = defined;
                accepted = accepted_exactly r (Unit {0}) (r ≡ Ok tt) tt (λ d. d) (length hits < 4294967295) (limit (length hits) None) (limit_means (length hits)) (limit_given (length hits)) defined;
                at_limit = λ most. (answers_refusal r (Unit {0}) (r ≡ Ok tt) (limit (length hits) None) Limit (limit_refuses (length hits) most) defined).0;
                never_foreign = never_foreign r (Unit {0}) (r ≡ Ok tt) tt (λ d. d) (limit (length hits) None) (limit_is_another (length hits)) defined;
              };
              sound = sound_after (limit (length hits) None) tt r s' f' (limit_means (length hits)) ends;
              unchanged = unchanged_after (limit (length hits) None) tt r s' f' ends;
            }

        -- ---- watched hits

        watched_is : (k : ℕ) → Accepted same bindings room lawful reading s f x s' f' → watched same k (row_of reading s) (row_of reading s') ≡ watched same k (row_after same m hits) (row_after same m (hits ++ x ∷ []))
        watched_is k did = ap (λ row. watched same k row (row_of reading s')) sound.table.row ∙ ap (watched same k (row_after same m hits)) (row_now s' f' did)

        true_watching : (k : ℕ) → TrueWatching same m hits k x (watched same k (row_after same m hits) (row_after same m (hits ++ x ∷ [])))
        true_watching k =
            let w = (rows hits).watched_hits k x in
            record { entering = w.entering; leaving = w.leaving; only_the_hit = w.only_the_hit; by_another = w.by_another }

        kept_watched : (k : ℕ) (r : Result (Option T × Option T) Refusal) → WatchedAnswered same bindings room lawful reading s f k x r s' f' → Kept same bindings room lawful reading Structured m hits (state s f) (watched_call k x r) (state s' f')
        kept_watched k r answered =
            let refusal : Option Refusal = rank m k (limit (length hits) None) in
            let now = watched same k (row_of reading s) (row_of reading s') in
            let a = watched same k (row_after same m hits) (row_after same m (hits ++ x ∷ [])) in
            let did : Type 0 = Accepted same bindings room lawful reading s f x s' f' in
            let ends = subst₂ (λ u n. Unless (rank u k (limit n None)) r (Unchanged s f s' f') ((r ≡ Ok now) × did)) sound.table.size sound.table.total
            (hit_ends (rank (reading.size s) k (limit (reading.total s) None)) now r s' f' answered) in
            let both = unless_weaker r (Unchanged s f s' f') ((r ≡ Ok now) × did) (Unit {0}) ((r ≡ Ok a) × did) (λ _. tt) (λ d. (d.0 ∙ ap Ok (watched_is k d.1), d.1)) refusal ends in
            record {
              truthful = record {
                defined = unless_weaker r (Unit {0}) ((r ≡ Ok a) × did) (Unit {0}) (r ≡ Ok a) (λ u. u) (λ d. d.0) refusal both;
                accepted = accepted_exactly r (Unit {0}) ((r ≡ Ok a) × did) a (λ d. d.0) (Ranked m k × (length hits < 4294967295)) refusal
                    (λ e. let parts = rank_means m k (limit (length hits) None) e in (parts.0, limit_means (length hits) parts.1))
                    (λ h. rank_passes m k (limit (length hits) None) h.0 ∙ limit_given (length hits) h.1) both;
                off_rank = λ not. (answers_refusal r (Unit {0}) ((r ≡ Ok a) × did) refusal Rank (rank_refuses m k (limit (length hits) None) not) both).0;
                at_limit = λ h most. (answers_refusal r (Unit {0}) ((r ≡ Ok a) × did) refusal Limit (rank_passes m k (limit (length hits) None) h ∙ limit_refuses (length hits) most) both).0;
                never_foreign = never_foreign r (Unit {0}) ((r ≡ Ok a) × did) a (λ d. d.0) refusal (rank_is_another m k (limit (length hits) None) (limit_is_another (length hits))) both;
                watching = made_if_accepted r (Unit {0}) did a (λ b. TrueWatching same m hits k x b) refusal (λ _ _. true_watching k) both;
              };
              sound = sound_after refusal now r s' f' (λ e. limit_means (length hits) (rank_means m k (limit (length hits) None) e).1) ends;
              unchanged = unchanged_after refusal now r s' f' ends;
            }

      -- ---- brackets

      bracket_is : bracket_at (outside (reading.size s) (row_of reading s)) (entry_at (reading.placed s) (lookup same (bindings f) x)) ≡ bracket same m (row_after same m hits) x
      bracket_is =
          ap (λ o. bracket_at (outside (reading.size s) (row_of reading s)) (entry_at (reading.placed s) o)) (sound.finds x) ∙
          ap (bracket_at (outside (reading.size s) (row_of reading s))) (own_entry same laws (reading.size s) some (reading.placed s) seated x (place_in same (reading.placed s) x) refl) ∙
          ap (λ n. bracket same n (row_of reading s) x) sound.table.size ∙ ap (λ row. bracket same m row x) sound.table.row

      own_bracket : foreign_place same (reading.used s) (reading.placed s) x (lookup same (bindings f) x) ≡ false
      own_bracket =
          ap (foreign_place same (reading.used s) (reading.placed s) x) (sound.finds x) ∙
          ap (λ u. foreign_place same u (reading.placed s) x (place_in same (reading.placed s) x)) (reliable.used s) ∙
          own_place same laws (reading.size s) some (reading.placed s) seated x (place_in same (reading.placed s) x) refl

      bracket_truth : (r : Result (ℕ × ℕ) Refusal) → BracketAnswered same bindings room lawful reading s f x r → BracketTruth same m hits x r
      bracket_truth r answered =
          let figures : ℕ × ℕ = bracket_at (outside (reading.size s) (row_of reading s)) (entry_at (reading.placed s) (lookup same (bindings f) x)) in
          let defined : r ≡ Ok (bracket same m (row_after same m hits) x) = subst (λ b. Unless (if_foreign b) r (Unit {0}) (r ≡ Ok figures)) own_bracket (answered sound.is_lawful) ∙ ap Ok bracket_is in
          record {
            defined = defined;
            never_foreign = λ e. ok_is_not_err (sym defined ∙ e);
            figures = subst (λ v. IfOk v (λ b. TrueBracket same m hits x b)) (sym defined) ((rows hits).brackets x);
          }

  -- ---- every call

  pub keeps_hit : (s : S) (f : F) (x : T) (r : Result (Unit {0}) Refusal) (s' : S) (f' : F) →
      HitAnswered same bindings room lawful reading s f x r s' f' → Keeps same bindings room lawful reading Structured (state s f) (hit_call x r) (state s' f')
  keeps_hit s f x r s' f' answered m hits sound = kept_hit m hits s f sound x s' f' r answered

  pub keeps_watched : (s : S) (f : F) (k : ℕ) (x : T) (r : Result (Option T × Option T) Refusal) (s' : S) (f' : F) →
      WatchedAnswered same bindings room lawful reading s f k x r s' f' → Keeps same bindings room lawful reading Structured (state s f) (watched_call k x r) (state s' f')
  keeps_watched s f k x r s' f' answered m hits sound = kept_watched m hits s f sound x s' f' k r answered

  pub keeps_bracket : (s : S) (f : F) (x : T) (r : Result (ℕ × ℕ) Refusal) →
      BracketAnswered same bindings room lawful reading s f x r → Keeps same bindings room lawful reading Structured (state s f) (bracket_call x r) (state s f)
  keeps_bracket s f x r answered m hits sound = kept_question same bindings room lawful reading Structured m hits s f sound (bracket_call x r) refl (bracket_truth m hits s f sound x r answered)
