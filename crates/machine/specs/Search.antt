-- A search from the root, breadth first: which blocks it finds, in which order, and how it came to each.
-- But for named_of and search_of nothing here knows where a heap lies: a block's references are a function from a word's number to what the word names.
--     named_in part byte w  what word w of a block with these eight words and this byte names; 0 where the word is no reference
--     Found                the blocks found, in the order found, and for each block how it was come to
--     came_to came x        how x was come to: 0 not at all, 1 as the root, 8 · b + w by word w of the block b
--     meet m b w x f       word w of b names x: a block that wasn't found yet is found
--     visit m b names f    b's words looked over, from word 0 on; names w is what word w of b names
--     onward n i m names f the blocks found visited in the order found, n of them at most, from the one at place i on
--     search m root names  the whole search; names b w is what word w of b names
--     named_of h            what the words of the heap h name;     search_of h   the search on h
--     Hop                  a pair of a path: a block, and the word of it that names the next block
--     path_to m came x      the path to x, from the root on, as `came` tells it
--     path_numbers hs       the path as numbers, two a pair
-- Assumes nothing.
use Rattle.std.specs.Prelude.{ℕ, zero, suc, ◌+◌, ◌*◌, ◌/◌, ◌%◌, ◌&&◌, List, [], ◌∷◌, ◌++◌, eqb, leb, ltb, get_or, set, length, replicate, if◌then◌else◌}
use Rattle.machine.specs.Block.{is_block, index, eight_words, byte_of, bit}
use Rattle.machine.specs.Heap.{Heap}

-- "Bit w of a block's byte, of value 2^w, is set when word w holds a reference."
unfoldable pub named_in : List ℕ → ℕ → ℕ → ℕ
named_in part byte w = if bit byte w then get_or part w 0 else 0

pub record Found : Type 0 where
  pub blocks : List ℕ
  pub came : List ℕ

abbrev pub found : List ℕ → List ℕ → Found
found bs cs = record { blocks = bs; came = cs }

abbrev pub came_to : List ℕ → ℕ → ℕ
came_to came x = get_or came (index x) 0

-- a block is found once: by the first word that names it
unfoldable pub meet : ℕ → ℕ → ℕ → ℕ → Found → Found
meet m b w x f =
    if is_block m x && eqb (came_to f.came x) 0
    then found (f.blocks ++ (x ∷ [])) (set f.came (index x) (8 * b + w))
    else f

-- n words of b, from word w on
unfoldable pub visit_from : ℕ → ℕ → ℕ → ℕ → (ℕ → ℕ) → Found → Found
visit_from zero w m b names f = f
visit_from (suc n) w m b names f = visit_from n (w + 1) m b names (meet m b w (names w) f)

abbrev pub visit : ℕ → ℕ → (ℕ → ℕ) → Found → Found
visit m b names f = visit_from 8 0 m b names f

unfoldable pub onward : ℕ → ℕ → ℕ → (ℕ → ℕ → ℕ) → Found → Found
onward zero i m names f = f
onward (suc n) i m names f =
    if ltb i (length f.blocks) then onward n (i + 1) m names (visit m (get_or f.blocks i 0) (names (get_or f.blocks i 0)) f) else f

-- what is found before any block is visited: the root, or nothing where there is none
unfoldable pub begun : ℕ → ℕ → Found
begun m root =
    if is_block m root
    then found (root ∷ []) (set (replicate m 0) (index root) 1)
    else found [] (replicate m 0)

unfoldable pub search : ℕ → ℕ → (ℕ → ℕ → ℕ) → Found
search m root names = onward m 0 m names (begun m root)

abbrev pub named_of : Heap → ℕ → ℕ → ℕ
named_of h b w = named_in (eight_words h.words b) (byte_of h.bytes b) w

abbrev pub search_of : Heap → Found
search_of h = search h.regs.blocks h.regs.root (named_of h)

-- "a path of (block, word) pairs from the root to it"
pub record Hop : Type 0 where
  pub block : ℕ
  pub word : ℕ

-- how x was come to, as the last pair of its path
abbrev pub last_hop : List ℕ → ℕ → Hop
last_hop came x = record { block = came_to came x / 8; word = came_to came x % 8 }

-- the path to x before the pairs of rest, of n pairs at most
unfoldable pub path_from : ℕ → List ℕ → ℕ → List Hop → List Hop
path_from zero came x rest = rest
path_from (suc n) came x rest =
    if leb (came_to came x) 1 then rest else path_from n came (came_to came x / 8) (last_hop came x ∷ rest)

abbrev pub path_to : ℕ → List ℕ → ℕ → List Hop
path_to m came x = path_from m came x []

unfoldable pub path_numbers : List Hop → List ℕ
path_numbers [] = []
path_numbers (p ∷ ps) = p.block ∷ p.word ∷ path_numbers ps
