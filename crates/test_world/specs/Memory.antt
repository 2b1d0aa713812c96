-- What the shelf and the sink in memory are seen as.
use Rattle.std.specs.Prelude.{ℕ, ◌-◌, ◌<◌, ◌≤◌, Bool, nat_lt, List, length, drop, map, find, Contains, Option, Some, None, IsSomeAnd, option_map, String, Vec, string_bytes, slice_get, bytes_eq}
use Rattle.std.specs.List.{list_all}
use Rattle.std.specs.declared.alloc.Global.{Global}
use Rattle.test_world.specs.Count.{raised}
use Rattle.test_world.specs.Shelf.{Current, ShelfState}

-- a shelf in memory: its texts, each a name and its bytes; the numbers of the calls that fail; how
-- many bytes a pull gives at most; the current text; and the counts of its calls and its faults
pub record MemoryShelf : Type 0 where
  pub texts : List (List ℕ × List ℕ)
  pub bad : List ℕ
  pub chunk : ℕ
  pub current : Option Current
  pub calls : ℕ
  pub faults : ℕ

-- a sink in memory: the bytes that it took; how many bytes it can hold in all; the numbers of the
-- puts that fail; how many bytes a put takes at most; and the counts of its puts and its faults
pub record MemorySink : Type 0 where
  pub taken : List ℕ
  pub room : ℕ
  pub bad : List ℕ
  pub chunk : ℕ
  pub puts : ℕ
  pub faults : ℕ

-- the names and bytes of these texts
abbrev pub named_texts : List (String Global × Vec ℕ Global) → List (List ℕ × List ℕ)
named_texts texts = map (λ text. (string_bytes text.0, text.1.items)) texts

-- the bytes of the first text of this name
abbrev pub bytes_in : List (List ℕ × List ℕ) → List ℕ → Option (List ℕ)
bytes_in texts name = option_map (λ text. text.1) (find (λ text. bytes_eq text.0 name) texts)

-- the whole text of this name, as the current one
abbrev pub whole_text : List (List ℕ × List ℕ) → List ℕ → Option Current
whole_text texts name = option_map (λ bytes. record { name = name; left = bytes }) (bytes_in texts name)

-- the current text without its first bytes, which were given
abbrev pub without_front : ℕ → Option Current → Option Current
without_front given current = option_map (λ text. record { name = text.name; left = drop given text.left }) current

-- the text at a place among the texts, without its first bytes, which were given
abbrev pub current_at : List (List ℕ × List ℕ) → Option ℕ → ℕ → Option Current
current_at texts None given = None
current_at texts (Some place) given =
    option_map (λ text. record { name = text.0; left = drop given text.1 }) (slice_get texts place)

-- so many bytes of the text at a place can have been given
abbrev pub IsPlaced : List (List ℕ × List ℕ) → Option ℕ → ℕ → Type 0
IsPlaced texts None given = Unit {0}
IsPlaced texts (Some place) given = IsSomeAnd (slice_get texts place) (λ text. given ≤ length text.1)

-- after so many calls the numbers of those that fail are past: each is below the next one
abbrev pub is_past_bad : ℕ → List ℕ → Bool
is_past_bad calls bad = list_all (λ number. nat_lt number (raised calls)) bad

-- what a shelf in memory tells: all but the names that were taken up
abbrev pub shelf_state_of : MemoryShelf → ShelfState
shelf_state_of shelf = record {
  shown = Some (record { held = bytes_in shelf.texts; current = shelf.current });
  visited = None;
  faults = shelf.faults;
  sound = is_past_bad shelf.calls shelf.bad;
}

-- the call or put after so many others is one of those that fail
abbrev pub FailsAfter : ℕ → List ℕ → Type 0
FailsAfter calls bad = Contains bad (raised calls)

-- how many bytes the sink can still take
abbrev pub room_left : MemorySink → ℕ
room_left sink = sink.room - length sink.taken
