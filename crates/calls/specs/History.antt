-- Histories of calls, and the promise over every one of them.
use Rattle.std.specs.Prelude.{◌≡◌, ℕ, Bool, List, [], ◌∷◌, ◌++◌, length, IfOk, Ok, Err, Option, Result}
use Rattle.finders.specs.declared.finder.Binding.{Binding}
use Rattle.calls.specs.declared.refusal.Refusal.{Refusal}
use Rattle.calls.specs.declared.answers.Line.{Line}
use Rattle.calls.specs.declared.answers.FrequentList.{FrequentList}
use Rattle.calls.specs.declared.answers.TopList.{TopList}
use Rattle.calls.specs.Reading.{Reading}
use Rattle.calls.specs.Calls.{OpenAnswered, Opened, HitAnswered, WatchedAnswered, BracketAnswered, FrequentAnswered, TopAnswered}
use Rattle.calls.specs.Truth.{OpenTruth, HitTruth, WatchedTruth, BracketTruth, FrequentTruth, TopTruth}
use Rattle.calls.specs.Sound.{SoundTable, Sound}

-- ---- histories

-- A call: what was asked, and what was answered; of a list also the lines before and after.
pub data Call (T : Type 0) : Type 0 where
  hit_call : T → Result (Unit {0}) Refusal → Call T
  watched_call : ℕ → T → Result (Option T × Option T) Refusal → Call T
  bracket_call : T → Result (ℕ × ℕ) Refusal → Call T
  frequent_call : ℕ → ℕ → List (Line T) → Result FrequentList Refusal → List (Line T) → Call T
  top_call : ℕ → List (Line T) → Result TopList Refusal → List (Line T) → Call T

-- The one summary and the one finder that the calls work on.
pub record State (S F : Type 0) : Type 0 where
  pub summary : S
  pub finder : F

abbrev pub state : {S F : Type 0} → S → F → State S F
state s f = record { summary = s; finder = f }

-- A call of a history, and what it left.
pub record Step (S T F : Type 0) : Type 0 where
  pub call : Call T
  pub after : State S F

-- The hits that a call adds to those accepted: its item, if it is a hit, plain or watched, that answers no refusal.
abbrev pub unless_error : {Answer T : Type 0} → T → Result Answer Refusal → List T
unless_error x (Ok a) = x ∷ []
unless_error x (Err why) = []

abbrev pub counted : {T : Type 0} → Call T → List T
counted (hit_call x r) = unless_error x r
counted (watched_call k x r) = unless_error x r
counted (bracket_call x r) = []
counted (frequent_call p q lines r lines') = []
counted (top_call k lines r lines') = []

module _ {S T F : Type 0} (same : T → T → Bool) (bindings : F → List (Binding T)) (room : F → ℕ) (lawful : F → Type 0) (reading : Reading S T) where
  -- What the contract of each call ensures. A question borrows what it reads, and so changes neither.
  abbrev pub Answered : State S F → Call T → State S F → Type 0
  Answered a (hit_call x r) b = HitAnswered same bindings room lawful reading a.summary a.finder x r b.summary b.finder
  Answered a (watched_call k x r) b = WatchedAnswered same bindings room lawful reading a.summary a.finder k x r b.summary b.finder
  Answered a (bracket_call x r) b = BracketAnswered same bindings room lawful reading a.summary a.finder x r × (b ≡ a)
  Answered a (frequent_call p q lines r lines') b = FrequentAnswered reading a.summary p q lines r lines' × (b ≡ a)
  Answered a (top_call k lines r lines') b = TopAnswered reading a.summary k lines r lines' × (b ≡ a)

  -- Each call finds what the one before it left.
  abbrev pub History : State S F → List (Step S T F) → Type 0
  History start [] = Unit {0}
  History start (one ∷ steps) = Answered start one.call one.after × History one.after steps

-- ---- what a call is held to

-- The answer of a call is true of the accepted hits before it, with m counters.
abbrev pub Truthful : {T : Type 0} → (T → T → Bool) → ℕ → List T → Call T → Type 0
Truthful same m hits (hit_call x r) = HitTruth same m hits r
Truthful same m hits (watched_call k x r) = WatchedTruth same m hits k x r
Truthful same m hits (bracket_call x r) = BracketTruth same m hits x r
Truthful same m hits (frequent_call p q lines r lines') = FrequentTruth same m hits p q lines r lines'
Truthful same m hits (top_call k lines r lines') = TopTruth same m hits k lines r lines'

-- What a caller of a list may rely on, whatever hits the summary is sound for.
abbrev pub ListKeeps : {S T : Type 0} → (T → T → Bool) → Reading S T → (S → Type 0) → S → Call T → Type 0
ListKeeps {S} {T} same reading Structured s call = (m : ℕ) (hits : List T) → SoundTable same reading Structured m hits s → Truthful same m hits call

module _ {S T F : Type 0} (same : T → T → Bool) (bindings : F → List (Binding T)) (room : F → ℕ) (lawful : F → Type 0) (reading : Reading S T) (Structured : S → Type 0) where
  -- A call between two states, the first of which is sound for some hits: the answer is true of these hits, the second
  -- is sound for them and the hit that the call adds, and a call that adds none leaves summary and finder as they were.
  pub record Kept (m : ℕ) (hits : List T) (a : State S F) (call : Call T) (b : State S F) : Type 0 where
    pub truthful : Truthful same m hits call
    pub sound : Sound same bindings room lawful reading Structured m (hits ++ counted call) b.summary b.finder
    pub unchanged : counted call ≡ [] → b ≡ a

  -- What a caller may rely on, whatever hits the state before is sound for.
  abbrev pub Keeps : State S F → Call T → State S F → Type 0
  Keeps a call b = (m : ℕ) (hits : List T) → Sound same bindings room lawful reading Structured m hits a.summary a.finder → Kept m hits a call b

  -- Sound for the hits accepted so far, and each call keeps the promise.
  abbrev pub KeptThroughout : ℕ → List T → State S F → List (Step S T F) → Type 0
  KeptThroughout m hits a [] = Sound same bindings room lawful reading Structured m hits a.summary a.finder
  KeptThroughout m hits a (one ∷ steps) =
      Sound same bindings room lawful reading Structured m hits a.summary a.finder
      × Kept m hits a one.call one.after
      × KeptThroughout m (hits ++ counted one.call) one.after steps

  -- The check before an opening over m places; and, if it accepts, every history from the summary that is then opened.
  pub record KeptFrom (m : ℕ) (f : F) (r : Result (Unit {0}) Refusal) : Type 0 where
    pub opening : OpenTruth m (room f) (length (bindings f)) r
    pub throughout : IfOk r (λ _. (s : S) → Opened reading m s → (steps : List (Step S T F)) → History same bindings room lawful reading (state s f) steps → KeptThroughout m [] (state s f) steps)

  -- The promise: whatever the order, number and refusals of the calls.
  abbrev pub Promise : Type 0
  Promise = (m : ℕ) (f : F) (r : Result (Unit {0}) Refusal) → OpenAnswered bindings room m f r → KeptFrom m f r
