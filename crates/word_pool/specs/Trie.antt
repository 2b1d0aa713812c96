-- How a vector of nodes stands for a list of words. Contracts of the pool name none of this.
use Rattle.std.specs.Prelude.{◌≡◌, ℕ, ◌<◌, ◌≤◌, ◌⊎◌, ◌==◌, if◌then◌else◌, List, [], ◌∷◌, ◌++◌, length, fold, slice_index_or}
use Rattle.word_pool.specs.declared.trie.Node.{Node}
use Rattle.word_pool.specs.Words.{word}
use Rattle.word_pool.specs.Order.{IsBelow}

-- what stands past the end of the nodes
abbrev pub no_node : Node
no_node = record { parent = 0; letter = 0; depth = 0; child = 0; sibling = 0 }

-- the node with a number
abbrev pub node_at : List Node → ℕ → Node
node_at ns i = slice_index_or ns i no_node

-- the words with that of one more node, which is its parent's word and its letter
abbrev pub add_word : List (List ℕ) → Node → List (List ℕ)
add_word ws n = ws ++ (if n.depth == 0 then [] else (word ws n.parent ++ n.letter ∷ [])) ∷ []

-- the words of the nodes, by number
unfoldable pub words_of : List Node → List (List ℕ)
words_of ns = fold add_word [] ns

-- `j` is a child of `p`
pub record IsChild (ns : List Node) (p j : ℕ) : Type 0 where
  pub not_root : 0 < j
  pub inside : j < length ns
  pub parent : (node_at ns j).parent ≡ p

-- the step of a ring from the letter `x` to `next` passes over no letter `y`: it goes up past none, or it goes
-- back from the last to the first
abbrev pub Steps : ℕ → ℕ → ℕ → Type 0
Steps x next y = ((x < next) × ((y ≤ x) ⊎ (next ≤ y))) ⊎ ((next ≤ x) × (y ≤ x) × (next ≤ y))

-- the children of each node form a ring in ascending order of letters, in which the last is followed by the
-- first; the node names one of them
pub record IsLinked (ns : List Node) : Type 0 where
  pub named : (p : ℕ) → 0 < (node_at ns p).child → IsChild ns p (node_at ns p).child
  pub some : (p j : ℕ) → IsChild ns p j → 0 < (node_at ns p).child
  pub next : (p k : ℕ) → IsChild ns p k → IsChild ns p (node_at ns k).sibling
  pub ring : (p k j : ℕ) → IsChild ns p k → IsChild ns p j →
      Steps (node_at ns k).letter (node_at ns (node_at ns k).sibling).letter (node_at ns j).letter

-- the nodes form the trie of the words `ws`
pub record IsTrie (ns : List Node) (ws : List (List ℕ)) : Type 0 where
  pub some : 0 < length ns
  pub few : length ns ≤ 4294967295
  pub size : length ws ≡ length ns
  pub root : word ws 0 ≡ []
  pub lower : (j : ℕ) → 0 < j → j < length ns → (node_at ns j).parent < j
  pub extends : (j : ℕ) → 0 < j → j < length ns → word ws j ≡ word ws (node_at ns j).parent ++ (node_at ns j).letter ∷ []
  pub depths : (j : ℕ) → j < length ns → (node_at ns j).depth ≡ length (word ws j)
  pub different : (i j : ℕ) → i < length ns → j < length ns → word ws i ≡ word ws j → i ≡ j
  pub links : IsLinked ns

-- a letter belongs between two neighbours of a ring
abbrev pub IsBetween : ℕ → ℕ → ℕ → Type 0
IsBetween before a after = ((before < a) × ((a < after) ⊎ (after ≤ before))) ⊎ ((a < after) × (after ≤ before))

-- where the letter `a` stands or belongs among the children of `p`: 0 where there are none, else the child
-- that has it, else the child after which it belongs in the ring
pub record IsPlace (ns : List Node) (p a place : ℕ) : Type 0 where
  pub none : place ≡ 0 → (node_at ns p).child ≡ 0
  pub child : 0 < place → IsChild ns p place
  pub between : 0 < place →
      ((node_at ns place).letter ≡ a) ⊎ IsBetween (node_at ns place).letter a (node_at ns (node_at ns place).sibling).letter

-- the node `n` became a child of its parent, in the ring after `place`, or alone where that is 0
pub record Links (old new : List Node) (place n : ℕ) : Type 0 where
  pub size : length new ≡ length old
  pub parent : (j : ℕ) → (node_at new j).parent ≡ (node_at old j).parent
  pub letter : (j : ℕ) → (node_at new j).letter ≡ (node_at old j).letter
  pub depth : (j : ℕ) → (node_at new j).depth ≡ (node_at old j).depth
  pub child : (node_at new (node_at old n).parent).child ≡ n
  pub child_other : (j : ℕ) → ¬ (j ≡ (node_at old n).parent) → (node_at new j).child ≡ (node_at old j).child
  pub sibling : 0 < place → (node_at new n).sibling ≡ (node_at old place).sibling
  pub sibling_before : 0 < place → (node_at new place).sibling ≡ n
  pub sibling_alone : place ≡ 0 → (node_at new n).sibling ≡ (node_at old n).sibling
  pub sibling_other : (j : ℕ) → ¬ (j ≡ n) → ¬ (j ≡ place) → (node_at new j).sibling ≡ (node_at old j).sibling

-- `next` is the word after the word `at` in lexicographic order, or 0 where that is the last
pub record IsNext (ws : List (List ℕ)) (at next : ℕ) : Type 0 where
  pub inside : next < length ws
  pub above : 0 < next → IsBelow (word ws at) (word ws next)
  pub least : (k : ℕ) → k < length ws → IsBelow (word ws at) (word ws k) →
      (0 < next) × ((k ≡ next) ⊎ IsBelow (word ws next) (word ws k))
