-- One more word with its reply.
use Rattle.std.proofs.Common.{◌≡◌, ◌≢◌, ℕ, suc, ◌+◌, ◌-◌, ◌<◌, ◌≤◌, ◌⊎◌, inl, inr, List, [], ◌∷◌, ◌++◌, length, take, map, get_or, refl, sym, ap, ◌∙◌, subst, arith, ℤ, append_assoc, append-nil, length-append, length-take, Contains, Some, slice_get}
use Rattle.std.specs.List.{All}
use Rattle.std.proofs.lemmas.List.{nil_from_length, take_at, get_or_append_left, get_or_push, get_or_read, get_or-map, length-map}
use Rattle.std.proofs.lemmas.Bool.{cases_lt, false≢true}
use Rattle.std.proofs.Common.{Bool, true, false, not, MatchBool}
use Rattle.std.specs.Cmp.Lexicographic.{pointwise}
use Rattle.std.specs.Ordering.{int_eq}
use Rattle.std.specs.Cmp.Rules.{signed_items}
use Rattle.std.proofs.lemmas.List.Elements.{Contains-append_left, Contains-push, Contains-push_cases, Contains-get_or, All-contains, All-weaker, All-push, All-head, All-tail, All-map}
use Rattle.std.proofs.lemmas.Option.{slice_get-get_or, slice_get_within, get_or_from_slice_get, same_Some}
use Rattle.word_pool.specs.Words.{word, extension_of, ArePooled, Keeps}
use Rattle.word_pool.specs.Words.{words_at, ArePrefixesOf}
use Rattle.suite_words.specs.Cover.{AreLetters}
use Rattle.subject.specs.Suite.{Test}
use Rattle.suite_model.specs.Pooled.{reply_to, replies_from, pooled_test, pooled_tests, MakeSuite}
use Rattle.lin_form.specs.declared.signature.Signature.{Signature}
use Rattle.lin_form.specs.Signature.{IsInInputRanges}
use Rattle.suite_model.proofs.CallerLemmas.{IsThere, prefix_in, not_first, reply_at, get-replies_from}
use Rattle.test_store.specs.Store.{Store, Enters, IsConflict}
use Rattle.test_store.specs.inside.Stored.{IsCovered, IsStored, HaveLetters}
use Rattle.suite_reading.specs.State.{AreRuled}

-- the replies to one more letter
pub replies_push : (ws : List (List ℕ)) (rs : List (List ℤ)) (u v : List ℕ) (a : ℕ) → replies_from ws rs u (v ++ a ∷ []) ≡ replies_from ws rs u v ++ reply_to ws rs ((u ++ v) ++ a ∷ []) ∷ []
replies_push ws rs u [] a = ap (λ x. reply_to ws rs (x ++ a ∷ []) ∷ []) (sym (append-nil u))
replies_push ws rs u (b ∷ v) a = ap (λ x. reply_to ws rs (u ++ b ∷ []) ∷ x) (replies_push ws rs (u ++ b ∷ []) v a ∙ ap (λ x. replies_from ws rs (u ++ b ∷ []) v ++ reply_to ws rs (x ++ a ∷ []) ∷ []) (append_assoc u (b ∷ []) v))

-- replies to words that were there stay the same where more words with more replies come
pub replies_kept : (ws new : List (List ℕ)) (rs more : List (List ℤ)) → ArePooled ws → ArePooled new → Keeps ws new → length ws ≡ length rs + 1 → (u v : List ℕ) → IsThere ws (u ++ v)
    → replies_from new (rs ++ more) u v ≡ replies_from ws rs u v
replies_kept ws new rs more pooled pooled' keeps size u [] there = refl
replies_kept ws new rs more pooled pooled' keeps size u (a ∷ v) there =
    let whole : IsThere ws ((u ++ a ∷ []) ++ v) = record { place = there.place; inside = there.inside; is = there.is ∙ sym (append_assoc u (a ∷ []) v) } in
    let here = prefix_in ws pooled (u ++ a ∷ []) v whole in
    let inside : here.place < length ws = here.inside in
    let some : 0 < here.place = not_first ws pooled here.place (u ++ a ∷ []) here.is (omega (arith, length-append u (a ∷ []))) in
    let kept : slice_get new here.place ≡ Some (u ++ a ∷ []) = keeps here.place (u ++ a ∷ []) (slice_get-get_or ws here.place [] here.inside ∙ ap (λ (x : List ℕ). Some x) here.is) in
    let first : reply_to new (rs ++ more) (u ++ a ∷ []) ≡ reply_to ws rs (u ++ a ∷ []) =
    reply_at new (rs ++ more) pooled' (u ++ a ∷ []) here.place (slice_get_within new here.place _ kept) (get_or_from_slice_get new here.place (u ++ a ∷ []) [] kept)
    ∙ get_or_append_left rs more [] (here.place - 1) (omega arith)
    ∙ sym (reply_at ws rs pooled (u ++ a ∷ []) here.place here.inside here.is) in
    ap (λ x. x ∷ replies_from new (rs ++ more) (u ++ a ∷ []) v) first ∙ ap (λ x. reply_to ws rs (u ++ a ∷ []) ∷ x) (replies_kept ws new rs more pooled pooled' keeps size (u ++ a ∷ []) v whole)

there_at : (ws : List (List ℕ)) (i : ℕ) → i < length ws → IsThere ws ([] ++ word ws i)
there_at ws i h = record { place = i; inside = h; is = refl }

word_kept : (ws new : List (List ℕ)) → Keeps ws new → (i : ℕ) → i < length ws → word new i ≡ word ws i
word_kept ws new keeps i h = get_or_from_slice_get new i (word ws i) [] (keeps i (word ws i) (slice_get-get_or ws i [] h))

pub tests_kept : (ws new : List (List ℕ)) (rs more : List (List ℤ)) → ArePooled ws → ArePooled new → Keeps ws new → length ws ≡ length rs + 1 → (ids : List ℕ) → All (λ i. i < length ws) ids
    → pooled_tests new (rs ++ more) ids ≡ pooled_tests ws rs ids
tests_kept ws new rs more pooled pooled' keeps size [] all = refl
tests_kept ws new rs more pooled pooled' keeps size (i ∷ ids) all =
    let h : i < length ws = All-head (λ i. i < length ws) i ids all in
    let one : pooled_test new (rs ++ more) (word new i) ≡ pooled_test ws rs (word ws i) =
    ap (pooled_test new (rs ++ more)) (word_kept ws new keeps i h)
    ∙ ap (λ x. let t : Test = record { letters = word ws i; replies = x } in t) (replies_kept ws new rs more pooled pooled' keeps size [] (word ws i) (there_at ws i h)) in
    ap (λ x. x ∷ pooled_tests new (rs ++ more) ids) one ∙ ap (λ x. pooled_test ws rs (word ws i) ∷ x) (tests_kept ws new rs more pooled pooled' keeps size ids (All-tail (λ i. i < length ws) i ids all))

-- a test whose letters begin with a word of the pool has that word's reply at its last letter
pub reply_in_test : (ws : List (List ℕ)) (rs : List (List ℤ)) → ArePooled ws → (w v : List ℕ) (a i : ℕ) → i < length ws → word ws i ≡ v ++ a ∷ [] → take (length v + 1) w ≡ v ++ a ∷ []
    → slice_get (replies_from ws rs [] w) (length v) ≡ Some (get_or rs (i - 1) [])
reply_in_test ws rs pooled w v a i inside is front =
    get-replies_from ws rs [] w (length v) (long w front)
    ∙ ap (λ (x : List ℤ). Some x) (ap (λ n. reply_to ws rs (take n w)) (let e : suc (length v) ≡ length v + 1 = omega arith in e) ∙ ap (reply_to ws rs) front ∙ reply_at ws rs pooled (v ++ a ∷ []) i inside is)
  where
    long : (w : List ℕ) → take (length v + 1) w ≡ v ++ a ∷ [] → length v < length w
    long w e = omega (arith, ap length e, length-take (length v + 1) w, length-append v (a ∷ []))

abbrev pub store_of : List (List ℕ) → List (List ℤ) → List ℕ → ℕ → Store
store_of ws rs ids at = record { tests = pooled_tests ws rs ids; now = pooled_test ws rs (word ws at); words = length ws; spare = 0 }

enters_same : (old old' : Store) (a : ℕ) (reply : List ℤ) (new : Store) → old.tests ≡ old'.tests → old.now ≡ old'.now → Enters old a reply new → Enters old' a reply new
enters_same old old' a reply new e f h = record {
  letters = h.letters ∙ ap (λ (t : Test). t.letters ++ a ∷ []) f;
  replies = h.replies ∙ ap (λ (t : Test). t.replies ++ reply ∷ []) f;
  agrees = subst (λ (n : Test). (t : Test) → Contains old'.tests t → take (length n.letters + 1) t.letters ≡ n.letters ++ a ∷ [] → slice_get t.replies (length n.letters) ≡ Some reply) f
      (subst (λ (ts : List Test). (t : Test) → Contains ts t → take (length old.now.letters + 1) t.letters ≡ old.now.letters ++ a ∷ [] → slice_get t.replies (length old.now.letters) ≡ Some reply) e h.agrees);
}

-- the step goes to a word that has this reply
pub enters_at : (ws : List (List ℕ)) (rs : List (List ℤ)) (ids : List ℕ) (at id a : ℕ) (reply : List ℤ) → ArePooled ws → id < length ws → word ws id ≡ word ws at ++ a ∷ [] → get_or rs (id - 1) [] ≡ reply
    → Enters (store_of ws rs ids at) a reply (store_of ws rs ids id)
enters_at ws rs ids at id a reply pooled inside is same = record {
  letters = is;
  replies = ap (replies_from ws rs []) is ∙ replies_push ws rs [] (word ws at) a ∙ ap (λ x. replies_from ws rs [] (word ws at) ++ x ∷ []) (reply_at ws rs pooled (word ws at ++ a ∷ []) id inside is ∙ same);
  agrees = λ t among. All-contains P (pooled_tests ws rs ids) t (All-map P (λ i. pooled_test ws rs (word ws i)) ids each) among;
}
  where
    P : Test → Type 0
    P t = take (length (word ws at) + 1) t.letters ≡ word ws at ++ a ∷ [] → slice_get t.replies (length (word ws at)) ≡ Some reply

    each : All (λ i. P (pooled_test ws rs (word ws i))) ids
    each k d h front = reply_in_test ws rs pooled (word ws (get_or ids k d)) (word ws at) a id inside is front ∙ ap (λ (x : List ℤ). Some x) same

-- what the store holds goes on from one word to the next
moved : (ws : List (List ℕ)) (ids : List ℕ) (at id a i : ℕ) → word ws id ≡ word ws at ++ a ∷ [] → IsCovered ws (ids ++ at ∷ []) i → IsCovered ws (ids ++ id ∷ []) i
moved ws ids at id a i is c = cases (Contains-push_cases ids at c.test c.among)
  where
    cases : Contains ids c.test ⊎ (at ≡ c.test) → IsCovered ws (ids ++ id ∷ []) i
    cases (inl h) = record { test = c.test; among = Contains-append_left ids (id ∷ []) c.test h; rest = c.rest; goes_on = c.goes_on }
    cases (inr e) = record {
      test = id;
      among = Contains-push ids id;
      rest = c.rest ++ a ∷ [];
      goes_on = is ∙ ap (λ x. x ++ a ∷ []) (ap (word ws) e ∙ c.goes_on) ∙ append_assoc (word ws i) c.rest (a ∷ []);
    }

pub stored_at : (ws : List (List ℕ)) (rs : List (List ℤ)) (ids : List ℕ) (at id a : ℕ) → IsStored ws rs ids at → id < length ws → word ws id ≡ word ws at ++ a ∷ [] → IsStored ws rs ids id
stored_at ws rs ids at id a s inside is = record { pooled = s.pooled; one_each = s.one_each; are_ids = s.are_ids; at_inside = inside; covered = λ i h. moved ws ids at id a i is (s.covered i h) }

at_map : {X Y : Type 0} (f : X → Y) (xs : List X) (x : X) → Contains xs x → Contains (map f xs) (f x)
at_map f xs x h = (h.0, let k : h.0 < length xs = h.1 in omega (arith, length-map xs f), get_or-map f xs h.0 x (f x) h.1 ∙ ap f h.2)

pub conflicts : (ws : List (List ℕ)) (rs : List (List ℤ)) (ids : List ℕ) (at id a : ℕ) (reply : List ℤ) → IsStored ws rs ids at → id < length ws → word ws id ≡ word ws at ++ a ∷ [] → get_or rs (id - 1) [] ≢ reply
    → IsConflict (store_of ws rs ids at) a reply
conflicts ws rs ids at id a reply s inside is other = cases (Contains-push_cases ids at c.test c.among)
  where
    c : IsCovered ws (ids ++ at ∷ []) id
    c = s.covered id inside

    begins : word ws c.test ≡ (word ws at ++ a ∷ []) ++ c.rest
    begins = c.goes_on ∙ ap (λ x. x ++ c.rest) is

    front : take (length (word ws at) + 1) (word ws c.test) ≡ word ws at ++ a ∷ []
    front = ap (take (length (word ws at) + 1)) begins ∙ take_at (word ws at ++ a ∷ []) c.rest (length (word ws at) + 1) (length-append (word ws at) (a ∷ []))

    cases : Contains ids c.test ⊎ (at ≡ c.test) → IsConflict (store_of ws rs ids at) a reply
    cases (inl h) = record {
      test = pooled_test ws rs (word ws c.test);
      among = at_map (λ i. pooled_test ws rs (word ws i)) ids c.test h;
      same = front;
      differs = λ e. other (same_Some _ _ (sym (reply_in_test ws rs s.pooled (word ws c.test) (word ws at) a id inside is front) ∙ e));
    }
    cases (inr e) = absurd (omega (arith, ap length (ap (word ws) e ∙ begins), length-append (word ws at ++ a ∷ []) c.rest, length-append (word ws at) (a ∷ [])))

-- a word that is new comes last, with its reply
pub record IsNew (ws : List (List ℕ)) (rs : List (List ℤ)) (ids : List ℕ) (at a : ℕ) (reply : List ℤ) (new : List (List ℕ)) (id : ℕ) : Type 0 where
  pub stored : IsStored new (rs ++ reply ∷ []) ids id
  pub enters : Enters (store_of ws rs ids at) a reply (store_of new (rs ++ reply ∷ []) ids id)
  pub tests : pooled_tests new (rs ++ reply ∷ []) ids ≡ pooled_tests ws rs ids

pub is_new : (ws : List (List ℕ)) (rs : List (List ℤ)) (ids : List ℕ) (at a : ℕ) (reply : List ℤ) (new : List (List ℕ)) (id : ℕ) → IsStored ws rs ids at → ArePooled new → Keeps ws new
    → new ≡ ws ++ (word ws at ++ a ∷ []) ∷ [] → id ≡ length ws → IsNew ws rs ids at a reply new id
is_new ws rs ids at a reply new id s pooled keeps grown last = record {
  stored = record {
    pooled = pooled;
    one_each = omega (arith, size, s.one_each, length-append rs (reply ∷ []));
    are_ids = All-weaker (λ i. i < length ws) (λ i. i < length new) (λ i h. omega (arith, size)) ids s.are_ids;
    at_inside = omega (arith, size, last);
    covered = λ i h. cover i (cases_lt i (length ws)) h;
  };
  enters = enters_same (store_of new (rs ++ reply ∷ []) ids at) (store_of ws rs ids at) a reply _ same_tests same_now
      (enters_at new (rs ++ reply ∷ []) ids at id a reply pooled (omega (arith, size, last)) is_word (ap (λ k. get_or (rs ++ reply ∷ []) k []) (omega (arith, s.one_each, last)) ∙ get_or_push rs reply [] (length rs) refl));
  tests = same_tests;
}
  where
    size : length new ≡ length ws + 1
    size = ap length grown ∙ length-append ws ((word ws at ++ a ∷ []) ∷ [])

    same_tests : pooled_tests new (rs ++ reply ∷ []) ids ≡ pooled_tests ws rs ids
    same_tests = tests_kept ws new rs (reply ∷ []) s.pooled pooled keeps s.one_each ids s.are_ids

    at_kept : word new at ≡ word ws at
    at_kept = word_kept ws new keeps at s.at_inside

    same_now : pooled_test new (rs ++ reply ∷ []) (word new at) ≡ pooled_test ws rs (word ws at)
    same_now = ap (pooled_test new (rs ++ reply ∷ [])) at_kept ∙ ap (λ x. let t : Test = record { letters = word ws at; replies = x } in t) (replies_kept ws new rs (reply ∷ []) s.pooled pooled keeps s.one_each [] (word ws at) (there_at ws at s.at_inside))

    is_word : word new id ≡ word new at ++ a ∷ []
    is_word = ap (word new) last ∙ ap (λ (x : List (List ℕ)). word x (length ws)) grown ∙ get_or_push ws (word ws at ++ a ∷ []) [] (length ws) refl ∙ sym (ap (λ x. x ++ a ∷ []) at_kept)

    kept_cover : (i : ℕ) → i < length ws → IsCovered ws (ids ++ at ∷ []) i → IsCovered new (ids ++ at ∷ []) i
    kept_cover i h c = record {
      test = c.test;
      among = c.among;
      rest = c.rest;
      goes_on = word_kept ws new keeps c.test (All-contains (λ i. i < length ws) (ids ++ at ∷ []) c.test (All-push (λ i. i < length ws) ids at s.are_ids s.at_inside) c.among) ∙ c.goes_on ∙ ap (λ x. x ++ c.rest) (sym (word_kept ws new keeps i h));
    }

    cover : (i : ℕ) → (i < length ws) ⊎ (length ws ≤ i) → i < length new → IsCovered new (ids ++ id ∷ []) i
    cover i (inl h) inside = moved new ids at id a i is_word (kept_cover i h (s.covered i h))
    cover i (inr h) inside = record { test = id; among = Contains-push ids id; rest = []; goes_on = ap (word new) (omega (arith, size, last)) ∙ sym (append-nil (word new i)) }

-- which of the two it is shows by the number
pub was_there : (ws new : List (List ℕ)) (u : List ℕ) (id : ℕ) → (Contains ws u × (new ≡ ws)) ⊎ (¬ Contains ws u × (new ≡ ws ++ u ∷ [])) → Keeps ws new → slice_get new id ≡ Some u → id < length ws → new ≡ ws
was_there ws new u id (inl h) keeps found inside = h.1
was_there ws new u id (inr h) keeps found inside =
    absurd (h.0 (subst (Contains ws) (sym (word_kept ws new keeps id inside) ∙ get_or_from_slice_get new id u [] found) (Contains-get_or ws id [] inside)))

pub record CameLast (ws new : List (List ℕ)) (u : List ℕ) (id : ℕ) : Type 0 where
  pub grown : new ≡ ws ++ u ∷ []
  pub last : id ≡ length ws

pub came_last : (ws new : List (List ℕ)) (u : List ℕ) (id : ℕ) → (Contains ws u × (new ≡ ws)) ⊎ (¬ Contains ws u × (new ≡ ws ++ u ∷ [])) → slice_get new id ≡ Some u → length ws ≤ id → CameLast ws new u id
came_last ws new u id (inl h) found past = absurd (omega (arith, slice_get_within new id u found, ap length h.1))
came_last ws new u id (inr h) found past = record { grown = h.1; last = omega (arith, slice_get_within new id u found, ap length h.1, length-append ws (u ∷ [])) }

pub decided : (a b : List ℤ) (r : Bool) → r ≡ pointwise int_eq a b → MatchBool (not r) (a ≢ b) (a ≡ b)
decided a b true e = (signed_items a b).0 (sym e)
decided a b false e = λ same. false≢true (e ∙ (signed_items a b).1 same)

-- the number of the word that a step goes to is below the number of words: nothing is new
pub record WasThere (ws : List (List ℕ)) (rs : List (List ℤ)) (ids : List ℕ) (at id a : ℕ) (new : List (List ℕ)) : Type 0 where
  pub same : new ≡ ws
  pub stored : IsStored ws rs ids id
  pub inside : id < length ws
  pub is : word ws id ≡ word ws at ++ a ∷ []

pub was : (ws new : List (List ℕ)) (rs : List (List ℤ)) (ids : List ℕ) (at id a number before : ℕ) → IsStored ws rs ids at → (Contains ws (extension_of ws at a) × (new ≡ ws)) ⊎ (¬ Contains ws (extension_of ws at a) × (new ≡ ws ++ extension_of ws at a ∷ []))
    → Keeps ws new → slice_get new id ≡ Some (extension_of ws at a) → number ≡ id → before ≡ length ws → number < before → WasThere ws rs ids at id a new
was ws new rs ids at id a number before s enters keeps found n b lower =
    let inside : id < length ws = omega arith in
    let same = was_there ws new (extension_of ws at a) id enters keeps found inside in
    let is = get_or_from_slice_get ws id (extension_of ws at a) [] (subst (λ (x : List (List ℕ)). slice_get x id ≡ Some (extension_of ws at a)) same found) in
    record { same = same; stored = stored_at ws rs ids at id a s inside is; inside = inside; is = is }

pub read_reply : (ws : List (List ℕ)) (rs rs' : List (List ℤ)) (ids : List ℕ) (at id a number : ℕ) (r : List ℤ) (new : List (List ℕ)) → IsStored ws rs ids at → WasThere ws rs ids at id a new → rs' ≡ rs → number ≡ id → r ≡ get_or rs' (number - 1) r → get_or rs (id - 1) [] ≡ r
read_reply ws rs rs' ids at id a number r new s w e n read =
    let some : 0 < id = not_first ws s.pooled id (word ws at ++ a ∷ []) w.is (omega (arith, length-append (word ws at) (a ∷ []))) in
    sym (get_or_read rs (id - 1) r (omega (arith, s.one_each, w.inside)) (read ∙ ap (λ x. get_or x (number - 1) r) e ∙ ap (λ k. get_or rs (k - 1) r) n) [])

pub finished : (ws : List (List ℕ)) (rs : List (List ℤ)) (ids ids' : List ℕ) (at first : ℕ) → IsStored ws rs ids at → ids' ≡ ids ++ at ∷ [] → first ≡ 0 → IsStored ws rs ids' first
finished ws rs ids ids' at first s e f =
    subst (λ x. IsStored ws rs x first) (sym e) (subst (IsStored ws rs (ids ++ at ∷ [])) (sym f) (record {
      pooled = s.pooled;
      one_each = s.one_each;
      are_ids = All-push (λ i. i < length ws) ids at s.are_ids s.at_inside;
      at_inside = (let h : at < length ws = s.at_inside in omega arith);
      covered = λ i h. let c = s.covered i h in record { test = c.test; among = Contains-append_left (ids ++ at ∷ []) (0 ∷ []) c.test c.among; rest = c.rest; goes_on = c.goes_on };
    }))

-- only the tests and the steps so far count for a step
pub enters_only : (old new old' new' : Store) (a : ℕ) (reply : List ℤ) → Enters old a reply new → old.tests ≡ old'.tests → old.now ≡ old'.now → new.now ≡ new'.now → Enters old' a reply new'
enters_only old new old' new' a reply h e f g =
    let k = enters_same old old' a reply new e f h in
    record { letters = ap (λ (t : Test). t.letters) (sym g) ∙ k.letters; replies = ap (λ (t : Test). t.replies) (sym g) ∙ k.replies; agrees = k.agrees }

pub conflict_only : (old old' : Store) (a : ℕ) (reply : List ℤ) → IsConflict old a reply → old.tests ≡ old'.tests → old.now ≡ old'.now → IsConflict old' a reply
conflict_only old old' a reply h e f = record {
  test = h.test;
  among = subst (λ (ts : List Test). Contains ts h.test) e h.among;
  same = subst (λ (n : Test). take (length n.letters + 1) h.test.letters ≡ n.letters ++ a ∷ []) f h.same;
  differs = subst (λ (n : Test). slice_get h.test.replies (length n.letters) ≢ Some reply) f h.differs;
}

pub letters_new : (ws new : List (List ℕ)) (rs : List (List ℤ)) (ids : List ℕ) (at : ℕ) → IsStored ws rs ids at → HaveLetters ws ids → Keeps ws new → HaveLetters new ids
letters_new ws new rs ids at s some keeps = λ i d h. subst (λ (x : List ℕ). 0 < length x) (sym (word_kept ws new keeps (get_or ids i d) (s.are_ids i d h))) (some i d h)

pub letters_finished : (ws : List (List ℕ)) (ids ids' : List ℕ) (at : ℕ) → HaveLetters ws ids → ids' ≡ ids ++ at ∷ [] → 0 < length (word ws at) → HaveLetters ws ids'
letters_finished ws ids ids' at k e some = subst (HaveLetters ws) (sym e) (All-push (λ i. 0 < length (word ws i)) ids at k some)

-- where no test is being entered and there is one, the tests cover every word
pub all_covered : (ws : List (List ℕ)) (rs : List (List ℤ)) (ids : List ℕ) (at : ℕ) → IsStored ws rs ids at → word ws at ≡ [] → 0 < length ids → (i : ℕ) → i < length ws → IsCovered ws ids i
all_covered ws rs ids at s empty some i inside = cases (Contains-push_cases ids at c.test c.among)
  where
    c : IsCovered ws (ids ++ at ∷ []) i
    c = s.covered i inside

    cases : Contains ids c.test ⊎ (at ≡ c.test) → IsCovered ws ids i
    cases (inl h) = record { test = c.test; among = h; rest = c.rest; goes_on = c.goes_on }
    cases (inr e) =
        let none : word ws i ≡ [] = nil_from_length (word ws i) (omega (arith, ap length (sym c.goes_on ∙ ap (word ws) (sym e) ∙ empty), length-append (word ws i) c.rest)) in
        record { test = get_or ids 0 0; among = Contains-get_or ids 0 0 some; rest = word ws (get_or ids 0 0); goes_on = ap (λ x. x ++ word ws (get_or ids 0 0)) (sym none) }

module _ (ws : List (List ℕ)) (rs : List (List ℤ)) (ids : List ℕ) (at classes outputs : ℕ) (s : IsStored ws rs ids at) (empty : word ws at ≡ []) (some : 0 < length ids)
    (ruled : All (AreRuled classes outputs) (pooled_tests ws rs ids)) where
  covered : (i : ℕ) → i < length ws → IsCovered ws ids i
  covered i inside = all_covered ws rs ids at s empty some i inside

  rules : (c : ℕ) → Contains ids c → AreRuled classes outputs (pooled_test ws rs (word ws c))
  rules c among = All-contains (AreRuled classes outputs) (pooled_tests ws rs ids) (pooled_test ws rs (word ws c)) ruled (at_map (λ i. pooled_test ws rs (word ws i)) ids c among)

  of_front : (u v : List ℕ) → AreLetters classes (u ++ v) → AreLetters classes u
  of_front u v all = λ i d h. subst (λ x. x < classes) (get_or_append_left u v d i h) (all i d (omega (arith, length-append u v, h)))

  pub all_letters : All (AreLetters classes) ws
  all_letters = λ i d h.
      let c = covered i h in
      subst (AreLetters classes) (word_or i d h) (of_front (word ws i) c.rest (subst (AreLetters classes) c.goes_on (rules c.test c.among).letters))
    where
      word_or : (i : ℕ) (d : List ℕ) → i < length ws → word ws i ≡ get_or ws i d
      word_or i d h = get_or_from_slice_get ws i (get_or ws i d) [] (slice_get-get_or ws i d h)

  pub all_counts : All (λ (r : List ℤ). length r ≡ outputs) rs
  all_counts = λ k d h.
      let above : k + 1 < length ws = omega (arith, h, s.one_each) in
      let x = s.pooled.prefixed (k + 1) (omega arith) above in
      let c = covered (k + 1) above in
      let v = word ws x.shorter in
      let begins : word ws c.test ≡ (v ++ x.last ∷ []) ++ c.rest = c.goes_on ∙ ap (λ w. w ++ c.rest) x.extends in
      let front : take (length v + 1) (word ws c.test) ≡ v ++ x.last ∷ [] = ap (take (length v + 1)) begins ∙ take_at (v ++ x.last ∷ []) c.rest (length v + 1) (length-append v (x.last ∷ [])) in
      let there = reply_in_test ws rs s.pooled (word ws c.test) v x.last (k + 1) above x.extends front in
      let counted = (rules c.test c.among).counts (length v) (get_or rs k d) (slice_get_within _ _ _ there) in
      subst (λ (r : List ℤ). length r ≡ outputs)
      (get_or_from_slice_get (replies_from ws rs [] (word ws c.test)) (length v) (get_or rs (k + 1 - 1) []) (get_or rs k d) there
      ∙ ap (λ n. get_or rs n []) (let e : k + 1 - 1 ≡ k = omega arith in e) ∙ read_or k d h) counted
    where
      read_or : (k : ℕ) (d : List ℤ) → k < length rs → get_or rs k [] ≡ get_or rs k d
      read_or k d h = get_or_from_slice_get rs k (get_or rs k d) [] (slice_get-get_or rs k d h)

  pub all_prefixes : ArePrefixesOf ws (words_at ws ids)
  all_prefixes i h =
      let c = covered i h in
      let inside : c.among.0 < length ids = c.among.1 in
      (c.among.0, (omega (arith, inside, length-map ids (word ws)), (c.rest, get_or-map (word ws) ids c.among.0 c.test [] c.among.1 ∙ ap (word ws) c.among.2 ∙ c.goes_on)))

pub parts_of : (signature : Signature) (classes : List (List ℤ)) (cover marks : List (List ℕ)) (ws : List (List ℕ)) (rs : List (List ℤ)) (ids : List ℕ) (at : ℕ) → IsStored ws rs ids at → HaveLetters ws ids
    → word ws at ≡ [] → 0 < length ids → All (AreRuled (length classes) (length signature.outputs)) (pooled_tests ws rs ids) → All (IsInInputRanges signature.inputs) classes → All (AreLetters (length classes)) cover → All (AreLetters (length classes)) marks
    → MakeSuite signature classes cover marks ws ids rs
parts_of signature classes cover marks ws rs ids at s letters empty some ruled vectors cs ms = record {
  vectors = vectors;
  letters = all_letters ws rs ids at (length classes) (length signature.outputs) s empty some ruled;
  cover_letters = cs;
  mark_letters = ms;
  are_ids = s.are_ids;
  some_letter = letters;
  prefixes = all_prefixes ws rs ids at (length classes) (length signature.outputs) s empty some ruled;
  one_each = s.one_each;
  counts = all_counts ws rs ids at (length classes) (length signature.outputs) s empty some ruled;
}

pub stored_first : (ws : List (List ℕ)) (rs : List (List ℤ)) (ids : List ℕ) (at : ℕ) → ArePooled ws → ws ≡ [] ∷ [] → rs ≡ [] → ids ≡ [] → at ≡ 0 → IsStored ws rs ids at
stored_first ws rs ids at pooled w r i a = record {
  pooled = pooled;
  one_each = omega (arith, ap length w, ap length r);
  are_ids = λ k d h. absurd (omega (arith, ap length i));
  at_inside = omega (arith, ap length w);
  covered = λ k h. record { test = at; among = Contains-push ids at; rest = []; goes_on = ap (word ws) (omega (arith, ap length w, a)) ∙ sym (append-nil (word ws k)) };
}

pub letters_first : (ws : List (List ℕ)) (ids : List ℕ) → ids ≡ [] → HaveLetters ws ids
letters_first ws ids e = λ k d h. absurd (omega (arith, ap length e))
