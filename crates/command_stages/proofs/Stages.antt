-- One stage after another.
use Rattle.std.proofs.Common.{◌≡◌, ◌≢◌, ℕ, ◌≤◌, List, [], ◌∷◌, ◌++◌, map, Option, Some, None, Result, Ok, Err, refl, sym, ◌∙◌, ap, subst, arith, ◌⊎◌, inl, inr}
use Rattle.std.specs.Prelude.{length}
use Rattle.std.proofs.lemmas.List.{map-append}
use Rattle.test_world.specs.Count.{Rose}
use Rattle.test_world.specs.Shelf.{ShelfState, Held, held_of, Holds, HoldsMoreThan, HasName, Keeps, Visits, IsSound}
use Rattle.test_world.proofs.Growing.{rose_before, grows_by_nothing, grows_by_both}
use Rattle.test_world.specs.declared.reading.LoadError.{LoadError}
use Rattle.test_world.specs.declared.reading.LoadError.TheVariants as load_error
use Rattle.test_world.specs.Load.{Loads, IsFault}
use Rattle.chart_syntax.specs.declared.error.Refusal as text_error
use Rattle.chart_syntax.specs.declared.error.Refusal.TheVariants as met
use Rattle.chart_syntax.specs.declared.error.ChartError.{ChartError}
use Rattle.chart_syntax.specs.declared.error.ChartError.TheVariants as chart_error
use Rattle.chart_syntax.specs.Reading.{IsRefusedBy}
use Rattle.command_stages.specs.Report.{word_at, name_of, names_of}
use Rattle.command_stages.specs.Text.{stop_of_load, stop_of_chart}
use Rattle.command_stages.specs.declared.stop.Source.TheVariants.{Word}
use Rattle.command_stages.specs.declared.stop.Refusal.{Refusal}
use Rattle.command_stages.specs.declared.stop.Source.{Source}
use Rattle.command_stages.specs.declared.stop.Departure.TheVariants.{NoMemory, Unread, WriteFault}
use Rattle.command_stages.specs.declared.stop.Stop.{Stop}
use Rattle.command_stages.specs.declared.stop.Stop.TheVariants.{NoCommand, Refused, Departed}
use Rattle.command_stages.specs.Stage.{Given, Stage, Then, Is, Memoryless, TextAt, Reading, Unless, Stopped, Comes, IsNoRead, IsRead, HoldsWanted, at_shelf, text_refusal, Made}

stopped_map : (stop : Stop) (S T : Type 0) (before between after : ℕ) → before ≤ between → (S → T) → Stopped stop S between after → Stopped stop T before after
stopped_map NoCommand S T before between after later f h = h
stopped_map (Refused refusal) S T before between after later f h = f h
stopped_map (Departed NoMemory) S T before between after later f h = f h
stopped_map (Departed (Unread source)) S T before between after later f h = (f h.0, rose_before before between after later h.1)
stopped_map (Departed WriteFault) S T before between after later f h = h

comes_then : {A B : Type 0} (first : Stage A) (next : A → Stage B) (given : Given) (front rest : List Source) (a : A) (before between after : ℕ) (r : Result B Stop) → first given front (Ok a) → before ≤ between → Comes (next a) given rest between after r → Comes (Then first next) given (front ++ rest) before after r
unfolding Then
comes_then first next given front rest a before between after (Ok b) is later h = (a, front, rest, refl, is, h)
comes_then {A} first next given front rest a before between after (Err stop) is later h =
    stopped_map stop (next a given rest (Err stop)) (first given (front ++ rest) (Err stop) ⊎ ((x : A) × (f t : List Source) × (front ++ rest ≡ f ++ t) × first given f (Ok x) × next x given t (Err stop))) before between after later (λ x. inr (a, front, rest, refl, is, x)) h

-- what a stage function answers at some given words and texts
abbrev MadeAt : {A : Type 0} → Stage A → Given → List Source → ShelfState → ShelfState → Result A Stop → Type 0
MadeAt stage given sources before after r = Comes stage given sources before.faults after.faults r × (IsSound before → HoldsWanted stage given → IsSound after × IsRead r)

visits_both : (words : List (List ℕ)) (before between after : ShelfState) (front rest : List Source) → Visits before between (names_of words front) → Visits between after (names_of words rest) → Visits before after (names_of words (front ++ rest))
visits_both words before between after front rest first next =
    let P : List (List ℕ) → Type 0 = λ names. Visits before after names in
    subst P (sym (map-append (name_of words) front rest)) (grows_by_both before.visited between.visited after.visited (names_of words front) (names_of words rest) first next)

-- a stage that came to a value, and what the next comes to
pub made_then : {A B : Type 0} (first : Stage A) (next : A → Stage B) {words : List (List ℕ)} {before between after : ShelfState} {a : A} {r : Result B Stop} → Made first words before between (Ok a) → Made (next a) words between after r → Made (Then first next) words before after r
unfolding Then
made_then {A} {B} first next {words} {before} {between} {after} {a} {r} one two =
    let e : at_shelf words between ≡ at_shelf words before = ap (λ (h : Option Held). let g : Given = record { words = words; held = h } in g) one.keeps.held in
    let P : Given → Type 0 = λ given. MadeAt (next a) given two.sources between after r in
    let there : MadeAt (next a) (at_shelf words before) two.sources between after r = subst P e (two.comes, two.sound) in
    let later : before.faults ≤ between.faults = one.keeps.later in
    let after_it : between.faults ≤ after.faults = two.keeps.later in
    record {
      sources = one.sources ++ two.sources;
      comes = comes_then first next (at_shelf words before) one.sources two.sources a before.faults between.faults after.faults r one.comes later there.0;
      visits = visits_both words before between after one.sources two.sources one.visits two.visits;
      keeps = record { held = two.keeps.held ∙ one.keeps.held; later = omega arith };
      sound = λ s wanted. there.1 (one.sound s (λ source sources h. wanted source sources (inl h))).0 (λ source sources h. wanted source (one.sources ++ sources) (inr (a, one.sources, sources, refl, one.comes, h)));
    }

-- a stage that stopped
pub made_stop : {A B : Type 0} (first : Stage A) (next : A → Stage B) {words : List (List ℕ)} {before after : ShelfState} {stop : Stop} → Made first words before after (Err stop) → Made (Then first next) words before after (Err stop)
unfolding Then
made_stop {A} {B} first next {words} {before} {after} {stop} one = record {
  sources = one.sources;
  comes = stopped_map stop (first (at_shelf words before) one.sources (Err stop)) (Then first next (at_shelf words before) one.sources (Err stop)) before.faults before.faults after.faults (omega arith) inl one.comes;
  visits = one.visits;
  keeps = one.keeps;
  sound = λ s wanted. one.sound s (λ source sources h. wanted source sources (inl h));
}

-- a stage function that touches nothing
untouched : {A : Type 0} {stage : Stage A} (words : List (List ℕ)) (shelf : ShelfState) (r : Result A Stop) → Comes stage (at_shelf words shelf) [] shelf.faults shelf.faults r → IsRead r → Made stage words shelf shelf r
untouched words shelf r comes read = record {
  sources = [];
  comes = comes;
  visits = grows_by_nothing shelf.visited;
  keeps = record { held = refl; later = omega arith };
  sound = λ s wanted. (s, read);
}

-- a value
pub made_is : {A : Type 0} (P : A → Type 0) {words : List (List ℕ)} {shelf : ShelfState} {a : A} → P a → Made (Is P) words shelf shelf (Ok a)
unfolding Is
made_is P {words} {shelf} {a} h = untouched {stage = Is P} words shelf (Ok a) (refl, h) tt

-- no memory for a value
pub made_nothing : {A : Type 0} (P : A → Type 0) {words : List (List ℕ)} {shelf : ShelfState} → Made (Is P) words shelf shelf (Err (Departed NoMemory))
unfolding Is
made_nothing P {words} {shelf} = untouched {stage = Is P} words shelf (Err (Departed NoMemory)) (refl, refl) tt

pub made_unless : (met : Type 0) (refusal : Refusal) {words : List (List ℕ)} {shelf : ShelfState} → (met → ⊥) → Made (Unless met refusal) words shelf shelf (Ok tt)
unfolding Unless
made_unless met refusal {words} {shelf} h = untouched {stage = Unless met refusal} words shelf (Ok tt) (refl, h) tt

pub made_refusal : (met : Type 0) (refusal : Refusal) {words : List (List ℕ)} {shelf : ShelfState} → met → Made (Unless met refusal) words shelf shelf (Err (Refused refusal))
unfolding Unless
made_refusal met refusal {words} {shelf} h = untouched {stage = Unless met refusal} words shelf (Err (Refused refusal)) (refl, h, refl) tt

-- no memory to see whether this holds
pub made_unknown : (met : Type 0) (refusal : Refusal) {words : List (List ℕ)} {shelf : ShelfState} → Made (Unless met refusal) words shelf shelf (Err (Departed NoMemory))
unfolding Unless
made_unknown met refusal {words} {shelf} = untouched {stage = Unless met refusal} words shelf (Err (Departed NoMemory)) (refl, refl) tt

wanted_so : {A : Type 0} (stage : Stage A) (given : Given) → HoldsWanted (Memoryless stage) given → HoldsWanted stage given
unfolding Memoryless
wanted_so stage given wanted source sources h = wanted source sources (h, λ e. cc)

comes_so : {A : Type 0} (stage : Stage A) (given : Given) (sources : List Source) (before after : ℕ) (r : Result A Stop) → r ≢ Err (Departed NoMemory) → Comes stage given sources before after r → Comes (Memoryless stage) given sources before after r
unfolding Memoryless
comes_so stage given sources before after (Ok a) has h = (h, has)
comes_so stage given sources before after (Err stop) has h = stopped_map stop (stage given sources (Err stop)) (stage given sources (Err stop) × (Err stop ≢ Err (Departed NoMemory))) before before after (omega arith) (λ k. (k, has)) h

-- what a stage function came to that takes no memory
pub made_so : {A : Type 0} (stage : Stage A) {words : List (List ℕ)} {before after : ShelfState} {r : Result A Stop} → r ≢ Err (Departed NoMemory) → Made stage words before after r → Made (Memoryless stage) words before after r
made_so stage {words} {before} {after} {r} has one = record {
  sources = one.sources;
  comes = comes_so stage (at_shelf words before) one.sources before.faults after.faults r has one.comes;
  visits = one.visits;
  keeps = one.keeps;
  sound = λ s wanted. one.sound s (wanted_so stage (at_shelf words before) wanted);
}

-- a stage that stopped, at the exit of a `?`
pub made_exit : {A B : Type 0} (first : Stage A) (next : A → Stage B) {words : List (List ℕ)} {before after : ShelfState} {stop : Stop} {r : Result B Stop} → Made first words before after (Err stop) → (x : Stop) × (r ≡ Err x) × (x ≡ stop) → Made (Then first next) words before after r
made_exit {A} {B} first next {words} {before} {after} {stop} {r} one e = let P : Result B Stop → Type 0 = λ x. Made (Then first next) words before after x in subst P (sym (e.1 ∙ ap Err e.2)) (made_stop first next one)

abbrev pub text_result : ℕ → Result (List ℕ) LoadError → Result (List ℕ) Stop
text_result number (Ok text) = Ok text
text_result number (Err error) = Err (stop_of_load number error)

text_comes : (number most : ℕ) (words : List (List ℕ)) (before after : ShelfState) (r : Result (List ℕ) LoadError) → Loads before after (word_at words number) most r → Comes (TextAt number most) (at_shelf words before) (Word number ∷ []) before.faults after.faults (text_result number r)
unfolding TextAt
text_comes number most words before after (Ok text) h = (refl, h.0, h.1)
text_comes number most words before after (Err load_error.Fault) h = ((refl, refl), h)
text_comes number most words before after (Err load_error.TooLong) h = (refl, refl, h)
text_comes number most words before after (Err load_error.Memory) h = (refl, refl)

text_read : (number : ℕ) (r : Result (List ℕ) LoadError) → (IsFault r → ⊥) → IsRead (text_result number r)
text_read number (Ok text) h = tt
text_read number (Err load_error.Fault) h = h tt
text_read number (Err load_error.TooLong) h = tt
text_read number (Err load_error.Memory) h = tt

wanted_text : (number most : ℕ) (words : List (List ℕ)) (before : ShelfState) → HoldsWanted (TextAt number most) (at_shelf words before) → HasName (held_of before) (word_at words number)
unfolding TextAt
wanted_text number most words before wanted = wanted (Word number) (Word number ∷ []) (refl, refl)

-- what a call of `load` answers
pub record IsLoaded (before after : ShelfState) (name : List ℕ) (most : ℕ) (r : Result (List ℕ) LoadError) : Type 0 where
  pub loads : Loads before after name most r
  pub keeps : Keeps before after
  pub visits : Visits before after (name ∷ [])
  pub stays_sound : IsSound before → HasName (held_of before) name → IsSound after
  pub no_fault : IsSound before → HasName (held_of before) name → IsFault r → ⊥

-- a text that was loaded or not
pub made_text : (number most : ℕ) (words : List (List ℕ)) (before after : ShelfState) (r : Result (List ℕ) LoadError) (name : List ℕ) → name ≡ word_at words number → IsLoaded before after name most r → Made (TextAt number most) words before after (text_result number r)
made_text number most words before after r name e loaded =
    let P : List ℕ → Type 0 = λ n. IsLoaded before after n most r in
    let there : P (word_at words number) = subst P e loaded in
    record {
      sources = Word number ∷ [];
      comes = text_comes number most words before after r there.loads;
      visits = there.visits;
      keeps = there.keeps;
      sound = λ s wanted. let has = wanted_text number most words before wanted in (there.stays_sound s has, text_read number r (there.no_fault s has));
    }

-- a text that was read
pub made_read : {A C : Type 0} (refusal : ℕ → C → Refusal) (reads : List ℕ → A → Type 0) (refuses : List ℕ → ℕ → C → Type 0) {text bytes : List ℕ} {words : List (List ℕ)} {shelf : ShelfState} {a : A} → bytes ≡ text → reads bytes a → Made (Reading refusal (reads text) (refuses text)) words shelf shelf (Ok a)
unfolding Reading
made_read refusal reads refuses {text} {bytes} {words} {shelf} {a} e h =
    let P : List ℕ → Type 0 = λ t. reads t a in
    untouched {stage = Reading refusal (reads text) (refuses text)} words shelf (Ok a) (refl, subst P e h) tt

-- a text that is refused
pub made_refused : {A C : Type 0} (refusal : ℕ → C → Refusal) (reads : List ℕ → A → Type 0) (refuses : List ℕ → ℕ → C → Type 0) {text bytes : List ℕ} {words : List (List ℕ)} {shelf : ShelfState} (line : ℕ) (met : C) → bytes ≡ text → refuses bytes line met → Made (Reading refusal (reads text) (refuses text)) words shelf shelf (Err (Refused (refusal line met)))
unfolding Reading
made_refused {A} refusal reads refuses {text} {bytes} {words} {shelf} line met same h =
    let P : List ℕ → Type 0 = λ t. refuses t line met in
    untouched {stage = Reading {A = A} refusal (reads text) (refuses text)} words shelf (Err (Refused (refusal line met))) (refl, line, met, refl, subst P same h) tt

-- no memory to read a text
pub made_unread : {A C : Type 0} (refusal : ℕ → C → Refusal) (reads : A → Type 0) (refuses : ℕ → C → Type 0) {words : List (List ℕ)} {shelf : ShelfState} → Made (Reading refusal reads refuses) words shelf shelf (Err (Departed NoMemory))
unfolding Reading
made_unread {A} refusal reads refuses {words} {shelf} = untouched {stage = Reading {A = A} refusal reads refuses} words shelf (Err (Departed NoMemory)) (refl, refl) tt

-- a text that has no reading
pub made_not : {A : Type 0} (number : ℕ) (reads : List ℕ → A → Type 0) (refuses : List ℕ → ℕ → text_error.Refusal → Type 0) {text bytes : List ℕ} {words : List (List ℕ)} {shelf : ShelfState} (e : ChartError) → bytes ≡ text → IsRefusedBy (refuses bytes) e → Made (Reading (text_refusal number) (reads text) (refuses text)) words shelf shelf (Err (stop_of_chart number e))
made_not number reads refuses (chart_error.Fault line kind) same h = made_refused (text_refusal number) reads refuses line (met.Fault kind) same h
made_not number reads refuses (chart_error.Limit line which) same h = made_refused (text_refusal number) reads refuses line (met.Limit which) same h
made_not number reads refuses {text} chart_error.Memory same h = made_unread (text_refusal number) (reads text) (refuses text)
