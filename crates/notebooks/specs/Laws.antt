-- What holds of flood words and of notebooks.
use Rattle.std.specs.Prelude.{◌≡◌, ℕ, ◌+◌, ◌-◌, ◌<◌, ◌≤◌, Bool, true, false, cond, List, map, length, Some, None}
use Rattle.sites.specs.Lists.{In}
use Rattle.words.specs.Paths.{path?}
use Rattle.theory.specs.Network.{Network}
use Rattle.theory.specs.Flooding.{Word, first_bit, expected, expected_up_to, words_for}
use Rattle.notebooks.specs.Floods.{flood_word, flood_in, floods, first_of_two}
use Rattle.notebooks.specs.Notebooks.{pages, empty_book, shown, note_round, round_words, owed_words, listed, noted, told_by}

-- a path that a flood word can carry: at most five different sites, each below 6
pub record Carried (p : List ℕ) : Type 0 where
  pub path : path? p ≡ true
  pub short : length p ≤ 5

pub record FloodLaws : Type 0 where
  -- a flood word is read back
  pub read_back : (w : Word) → Carried w.path → flood_in (flood_word w) ≡ Some w
  -- a word that says a path and a bit is the flood word of them, and no other is
  pub word_back : (x : ℕ) (w : Word) → flood_in x ≡ Some w → flood_word w ≡ x
  -- what a word says is a path that a flood word can carry
  pub says_a_path : (x : ℕ) (w : Word) → flood_in x ≡ Some w → Carried w.path
  -- different paths or bits have different words
  pub one_word_each : (a b : Word) → Carried a.path → Carried b.path → flood_word a ≡ flood_word b → a ≡ b
  -- a path has two words, one behind the other, and none of them is zero
  pub two_words : (p : List ℕ) → flood_word (record { path = p; bit = true }) ≡ flood_word (record { path = p; bit = false }) + 1
  pub not_zero : (w : Word) → 0 < flood_word w
  -- so the bit that a lane says for a path is that of the first word that is one of the two
  pub first_word : (p ws : List ℕ) → Carried p → first_of_two (flood_word (record { path = p; bit = false })) ws ≡ first_bit (floods ws) p
  -- what sites put as flood words is what the lane says
  pub lane_back : (ws : List Word) → ((w : Word) → In w ws → Carried w.path) → floods (map flood_word ws) ≡ ws

-- of a notebook of v, where the bits noted are those that hear tells of the paths
pub record NotebookLaws (N : Network) (v : ℕ) (hear : List ℕ → Bool) : Type 0 where
  -- before the first round nothing is noted
  pub empty : shown N v 0 hear ≡ empty_book
  -- one round more
  pub one_round_more : (r : ℕ) → note_round N v (r + 1) hear (shown N v r hear) ≡ shown N v (r + 1) hear
  -- what stands in it for a round is exactly what is to be put
  pub round_to_put : (r : ℕ) → round_words N v r (shown N v r hear) ≡ map flood_word (words_for hear (expected N v r))
  -- the bit of each path that was heard, and of no other
  pub lookup : (r : ℕ) (p : List ℕ) → noted N v r (shown N v r hear) p ≡ cond (listed p (expected_up_to N v r)) (Some (hear p)) None
  -- when all rounds were heard it tells of each expected path what was heard along it
  pub tells : (k : ℕ) (p : List ℕ) → k ≤ N.n - 1 → In p (expected N v k) → told_by N v (shown N v (N.n - 1) hear) p ≡ hear p
  -- six sites or fewer: it never needs more words than it has, and at most 120 are put in a round
  pub long : N.n ≤ 6 → v < N.n → (r : ℕ) → length (shown N v r hear) ≡ pages
  pub few_noted : N.n ≤ 6 → v < N.n → (r : ℕ) → length (expected_up_to N v r) ≤ pages
  pub few_put : N.n ≤ 6 → v < N.n → (held : Bool) (book : List ℕ) (r : ℕ) → length (owed_words N v r held book) ≤ 120

abbrev pub NotebookLaw : Type 0
NotebookLaw = (N : Network) (v : ℕ) (hear : List ℕ → Bool) → NotebookLaws N v hear
