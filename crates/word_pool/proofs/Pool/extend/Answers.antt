use Rattle.std.proofs.Common.{◌≡◌, ℕ, ◌+◌, ◌-◌, ◌<◌, List, ◌++◌, length, take, drop, set, refl, ap, sym, ◌∙◌, arith}
use Rattle.std.specs.Vec.{vec_len, vec_capacity}
use Rattle.std.proofs.lemmas.List.{get_or_read}
use Rattle.word_pool.specs.declared.trie.Node.{Node}
use Rattle.word_pool.specs.Words.{Words}
use Rattle.word_pool.specs.Trie.{node_at, no_node, words_of, IsChild, IsPlace, Links}
use Rattle.word_pool.proofs.Nodes.{id_inside, depth_at_most, pooled}
use Rattle.word_pool.proofs.Rings.{letter_at}
use Rattle.word_pool.proofs.Growing.{trie_more}
use Rattle.word_pool.proofs.Naming.{naming, words_named, trie_named}
use Rattle.word_pool.proofs.Extending.{IsEntered, IsLinkedIn, entered_here, entered_new, keeps_entered, linked_in, missing_by, place_inside, written}
use Rattle.word_pool.proofs.Pool.extend.Goals as goal

inside : (c : goal.After-self-1) → c.id.inside.number < length c.self.inside.nodes.items
inside c = id_inside c.self.inside.nodes.items (words_of c.self.inside.nodes.items) c.self.invariant c.args.self.now.words c.id.inside.number c.args.id
    (ap (λ (w : Words). w.words) c.self.view_is) c.id.view_is c.requires.id

parent_read : (c : goal.After-self-1) → c.index_mut.result.now ≡ node_at c.self.inside.nodes.items c.id.inside.number
parent_read c = get_or_read c.self.inside.nodes.items c.id.inside.number c.index_mut.result.now (inside c) c.index_mut.ensures.value no_node

child_here : (c : goal.After-self-1) → IsChild c.self.inside.nodes.items c.id.inside.number c.place_of-place.result
child_here c =
    let h : IsPlace c.self.inside.nodes.items c.id.inside.number c.args.letter c.place_of-place.result = rw (c.as_slice.ensures.value) at c.place_of-place.ensures in
    h.child c.if-is_here.ensures.0

letter_here : (c : goal.After-self-1) → letter_at c.self.inside.nodes.items c.place_of-place.result ≡ c.args.letter
letter_here c = ap (λ (x : List Node). letter_at x c.place_of-place.result) (sym c.as_slice-2.ensures.value) ∙ c.if-is_here.ensures.1

entered : (c : goal.After-self-1) → IsEntered c.args.self.now.words (words_of (set c.self.inside.nodes.items c.id.inside.number (naming c.index_mut.result.now c.place_of-place.result)))
    c.args.id c.args.letter c.place_of-place.result
entered c = entered_here c.self.inside.nodes.items c.index_mut.result.now c.id.inside.number c.args.letter c.place_of-place.result c.self.invariant (child_here c) (letter_here c)
    (parent_read c) (inside c) c.args.self.now.words c.args.id (ap (λ (w : Words). w.words) c.self.view_is) c.id.view_is

pub invariant_of-self : goal.invariant_of-self
invariant_of-self c =
    let ns = c.self.inside.nodes.items in
    rw (words_named ns c.index_mut.result.now c.id.inside.number c.place_of-place.result (parent_read c) (inside c))
    (trie_named ns c.index_mut.result.now c.id.inside.number c.place_of-place.result (parent_read c) (inside c) (words_of ns) c.self.invariant (child_here c))

pub returns-then-is_here-clause-word : goal.returns-then-is_here-clause-word
returns-then-is_here-clause-word c = (entered c).word_there

pub returns-then-is_here-clause-enters : goal.returns-then-is_here-clause-enters
returns-then-is_here-clause-enters c = (entered c).enters

pub returns-then-is_here-clause-keeps : goal.returns-then-is_here-clause-keeps
returns-then-is_here-clause-keeps c = keeps_entered c.args.self.now.words _ _ (entered c).enters

pub returns-then-is_here-clause-pooled : goal.returns-then-is_here-clause-pooled
returns-then-is_here-clause-pooled c = (entered c).are_pooled

pub returns-then-is_here-clause-there : goal.returns-then-is_here-clause-there
returns-then-is_here-clause-there c = λ _.
    let ns = c.self.inside.nodes.items in
    let seen : List (List ℕ) → Words = λ ws. record { words = ws; spare = vec_capacity c.self.inside.nodes - vec_len c.self.inside.nodes } in
    (refl, ap seen (words_named ns c.index_mut.result.now c.id.inside.number c.place_of-place.result (parent_read c) (inside c)) ∙ c.self.view_is)

pub overflow_add-depth : goal.overflow_add-depth
overflow_add-depth c =
    let ns = c.self.inside.nodes.items in
    let hp = id_inside ns (words_of ns) c.self.invariant c.args.self.now.words c.id.inside.number c.args.id (ap (λ (w : Words). w.words) c.self.view_is) c.id.view_is c.requires.id in
    let read = get_or_read ns c.id.inside.number c.index.result.now hp c.index.ensures no_node in
    omega (arith, hp, c.self.invariant.few, depth_at_most ns (words_of ns) c.self.invariant c.id.inside.number hp, ap (λ n. n.depth) read)

pub returns-in_err-push-clause-pooled : goal.returns-in_err-push-clause-pooled
returns-in_err-push-clause-pooled c = rw (c.in_err-push.ensures.items) (pooled c.self.inside.nodes.items (words_of c.self.inside.nodes.items) c.self.invariant)

pub returns-in_err-push-clause-there : goal.returns-in_err-push-clause-there
returns-in_err-push-clause-there c =
    let ns = c.self.inside.nodes.items in
    let hp = id_inside ns (words_of ns) c.self.invariant c.args.self.now.words c.id.inside.number c.args.id (ap (λ (w : Words). w.words) c.self.view_is) c.id.view_is c.requires.id in
    let h : IsPlace ns c.id.inside.number c.args.letter c.place_of-place.result = rw (c.as_slice.ensures.value) at c.place_of-place.ensures in
    let fresh : 0 < c.place_of-place.result → ¬ (letter_at ns c.place_of-place.result ≡ c.args.letter) = rw (c.as_slice-2.ensures.value) at c.if-is_here.ensures in
    λ there. absurd (missing_by ns c.id.inside.number c.args.letter c.place_of-place.result c.self.invariant h fresh hp
    c.args.self.now.words c.args.id (ap (λ (w : Words). w.words) c.self.view_is) c.id.view_is there)

number_is : (c : goal.After-self-2-1) → c.len-number.result ≡ length c.self.inside.nodes.items
number_is c = omega (arith, c.len-number.ensures, c.self.inside.nodes.ok.0)

place_is : (c : goal.After-self-2-1) → IsPlace c.self.inside.nodes.items c.id.inside.number c.args.letter c.place_of-place.result
place_is c = rw (c.as_slice.ensures.value) at c.place_of-place.ensures

fresh_is : (c : goal.After-self-2-1) → 0 < c.place_of-place.result → ¬ (letter_at c.self.inside.nodes.items c.place_of-place.result ≡ c.args.letter)
fresh_is c = rw (c.as_slice-2.ensures.value) at c.if-is_here.ensures

parent_inside : (c : goal.After-self-2-1) → c.id.inside.number < length c.self.inside.nodes.items
parent_inside c = id_inside c.self.inside.nodes.items (words_of c.self.inside.nodes.items) c.self.invariant c.args.self.now.words c.id.inside.number c.args.id
    (ap (λ (w : Words). w.words) c.self.view_is) c.id.view_is c.requires.id

linked_is : (c : goal.After-self-2-1) → IsLinkedIn c.self.inside.nodes.items c.link.new.nodes c.id.inside.number c.args.letter c.place_of-place.result
linked_is c =
    let ns = c.self.inside.nodes.items in
    let l : Links c.push.new.self.items c.link.new.nodes c.place_of-place.result c.len-number.result = rw (c.as_mut_slice.ensures.value) at c.link.ensures in
    let low : c.place_of-place.result < length ns = place_inside ns c.id.inside.number c.args.letter c.place_of-place.result (parent_inside c) (place_is c) in
    let read = get_or_read ns c.id.inside.number c.index.result.now (parent_inside c) c.index.ensures no_node in
    linked_in ns c.id.inside.number c.args.letter (c.index.result.now.depth + 1) c.len-number.result c.push.new.self.items c.link.new.nodes c.place_of-place.result
    c.in_ok-push.ensures.items (number_is c) l (parent_inside c) low (ap (λ n. n.depth + 1) read)

-- the vector has the nodes that were written
nodes_are : (c : goal.After-self-2-1) → take c.push.new.self.len (c.link.new.nodes ++ drop (length c.link.new.nodes) c.push.new.self.items) ≡ c.link.new.nodes
nodes_are c = written c.link.new.nodes c.push.new.self.items c.push.new.self.len ((rw (c.as_mut_slice.ensures.value) at c.link.ensures).size) (omega (arith, c.push.new.self.ok.0))

few_are : (c : goal.After-self-2-1) → length c.self.inside.nodes.items < 4294967295
few_are c = omega (arith, c.requires.few, c.self.invariant.size, ap (λ (w : Words). length w.words) c.self.view_is)

entered_is : (c : goal.After-self-2-1) → IsEntered c.args.self.now.words (words_of (take c.push.new.self.len (c.link.new.nodes ++ drop (length c.link.new.nodes) c.push.new.self.items)))
    c.args.id c.args.letter c.len-number.result
entered_is c = rw (nodes_are c) (entered_new c.self.inside.nodes.items c.link.new.nodes c.id.inside.number c.args.letter c.place_of-place.result c.self.invariant
    (linked_is c).grows (place_is c) (fresh_is c) (parent_inside c) (few_are c) (linked_is c).words c.args.self.now.words c.args.id c.len-number.result
    (ap (λ (w : Words). w.words) c.self.view_is) c.id.view_is (number_is c))

pub invariant_of-self-2 : goal.invariant_of-self-2
invariant_of-self-2 c =
    let ns = c.self.inside.nodes.items in
    rw (nodes_are c, (linked_is c).words) (trie_more ns c.link.new.nodes (words_of ns) c.self.invariant c.id.inside.number c.args.letter c.place_of-place.result
    (linked_is c).grows (place_is c) (fresh_is c) (parent_inside c) (few_are c))

pub returns-clause-word : goal.returns-clause-word
returns-clause-word c = (entered_is c).word_there

pub returns-clause-enters : goal.returns-clause-enters
returns-clause-enters c = (entered_is c).enters

pub returns-clause-keeps : goal.returns-clause-keeps
returns-clause-keeps c = keeps_entered c.args.self.now.words _ _ (entered_is c).enters

pub returns-clause-pooled : goal.returns-clause-pooled
returns-clause-pooled c = (entered_is c).are_pooled

pub returns-clause-there : goal.returns-clause-there
returns-clause-there c = λ there. absurd (missing_by c.self.inside.nodes.items c.id.inside.number c.args.letter c.place_of-place.result c.self.invariant
    (place_is c) (fresh_is c) (parent_inside c) c.args.self.now.words c.args.id (ap (λ (w : Words). w.words) c.self.view_is) c.id.view_is there)
