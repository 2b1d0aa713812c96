-- Walks from a word to its prefixes.
use Rattle.std.proofs.Common.{◌≡◌, ℕ, ◌+◌, ◌-◌, ◌<◌, ◌≤◌, List, [], ◌++◌, length, take, drop, get_or, set, slice_get, Some, ap, sym, ◌∙◌, inl, inr, arith}
use Rattle.std.proofs.lemmas.Bool.{cases_eq}
use Rattle.std.proofs.lemmas.List.{take_more, drop_more, drop-set, length-set, length-take, length-take-le, same_from_push}
use Rattle.std.proofs.lemmas.Option.{slice_get-get_or}
use Rattle.word_pool.specs.declared.trie.Node.{Node}
use Rattle.word_pool.specs.Words.{word}
use Rattle.word_pool.specs.Trie.{node_at, IsTrie}

-- `here` is a prefix of the word `id` that has `count` letters or more
pub record IsFront (ws : List (List ℕ)) (id count here : ℕ) : Type 0 where
  pub inside : here < length ws
  pub front : word ws here ≡ take (length (word ws here)) (word ws id)
  pub long : count ≤ length (word ws here)
  pub upto : here ≤ id

-- the letters of the word `id` from `place` on were put into `into`, which was `old`, and `here` is the prefix before them
pub record IsPut (ws : List (List ℕ)) (id count place here : ℕ) (old into : List ℕ) : Type 0 where
  pub inside : here < length ws
  pub front : word ws here ≡ take place (word ws id)
  pub upto : place ≤ length (word ws id)
  pub size : length into ≡ length old
  pub rest : drop place into ≡ drop place (word ws id) ++ drop (length (word ws id)) old
  pub counted : count ≡ length (word ws id)

module _ (ns : List Node) (ws : List (List ℕ)) (t : IsTrie ns ws) where
  -- where a prefix of `w` with one letter more ends: its letter, and the prefix without it
  shorter : (here place : ℕ) (w : List ℕ) → here < length ns → place < length w → word ws here ≡ take (place + 1) w →
      (0 < here) × ((word ws (node_at ns here).parent ≡ take place w) × ((node_at ns here).letter ≡ get_or w place 0))
  shorter here place w inside h e =
      let long : length (word ws here) ≡ place + 1 = ap (λ x. length x) e ∙ length-take-le (place + 1) w (omega (arith, h)) in
      let z : 0 < here = not_root here place long in
      let s = same_from_push (word ws (node_at ns here).parent) (take place w) (node_at ns here).letter (get_or w place 0)
      (sym (t.extends here z inside) ∙ (e ∙ take_more w place 0 h)) in
      (z, (s.0, s.1))
    where
      not_root : (k n : ℕ) → length (word ws k) ≡ n + 1 → 0 < k
      not_root k n e = elim (cases_eq k 0) as (λ _. 0 < k) [
        | inl d ↦ let d' : k ≡ 0 = d in absurd (omega (arith, e, ap (λ x. length x) (ap (λ i. word ws i) d' ∙ t.root)))
        | inr d ↦ omega (arith, d)
      ]

  pub put_more : (id count place here : ℕ) (old into : List ℕ) → IsPut ws id count (place + 1) here old into → place < length into →
      (0 < here) × IsPut ws id count place (node_at ns here).parent old (set into place (node_at ns here).letter)
  put_more id count place here old into p h =
      let w : List ℕ = word ws id in
      let s = shorter here place (word ws id) (omega (arith, p.inside, t.size)) (omega (arith, p.upto)) p.front in (
        s.0,
        record {
          inside = omega (arith, t.lower here s.0 (omega (arith, p.inside, t.size)), p.inside);
          front = s.1.0;
          upto = omega (arith, p.upto);
          size = length-set into place (node_at ns here).letter ∙ p.size;
          rest = drop-set into place (node_at ns here).letter h ∙ (cc (s.1.1, p.rest, drop_more (word ws id) place 0 (omega (arith, p.upto))));
          counted = p.counted;
        },
      )

  pub front_more : (id count here : ℕ) → IsFront ws id count here → count < length (word ws here) →
      (0 < here) × (IsFront ws id count (node_at ns here).parent × ((node_at ns here).parent < here))
  front_more id count here f h =
      let m : ℕ = length (word ws here) - 1 in
      let long : m + 1 ≡ length (word ws here) = omega (arith, h) in
      let short : length (word ws here) ≤ length (word ws id) = omega (arith, ap (λ x. length x) f.front, length-take (length (word ws here)) (word ws id)) in
      let within : here < length ns = omega (arith, f.inside, t.size) in
      let s = shorter here m (word ws id) within (omega (arith, long, short)) (rw (long) f.front) in
      let low = t.lower here s.0 within in
      let size : length (word ws (node_at ns here).parent) ≡ m = ap (λ x. length x) s.1.0 ∙ length-take-le m (word ws id) (omega (arith, long, short)) in (
        s.0,
        (
          record {
            inside = omega (arith, low, f.inside);
            front = rw (size) s.1.0;
            long = omega (arith, size, long, h);
            upto = omega (arith, low, f.upto);
          },
          low,
        ),
      )

-- a front that has no more letters than it must is the prefix
pub front_found : (ws all : List (List ℕ)) (id count here : ℕ) → ws ≡ all → IsFront ws id count here → length (word ws here) ≤ count →
    slice_get all here ≡ Some (take count (word all id))
front_found ws all id count here v f h =
    let size : length (word ws here) ≡ count = omega (arith, f.long, h) in
    rw (← v) (slice_get-get_or ws here [] f.inside ∙ ap Some (f.front ∙ ap (λ n. take n (word ws id)) size))
