-- Recalling the bit noted for a path.
use Rattle.std.specs.Prelude.{◌≡◌, ℕ, Bool, cond, List, Some, None, Ok, Err, Option, Result}
use Rattle.sites.specs.declared.refusal.Refusal.{Refusal}
use Rattle.sites.specs.declared.refusal.Refusal.TheVariants.{Path as Unlawful, Unheard}
use Rattle.words.specs.declared.path.Path.{Path}
use Rattle.words.specs.Words.{sites_of}
use Rattle.theory.specs.Network.{Network}
use Rattle.theory.specs.Flooding.{Word}
use Rattle.notebooks.specs.Floods.{flood_in}
use Rattle.notebooks.specs.Notebooks.{noted}

-- the bit noted, or 29
abbrev pub or_unheard : Option Bool → Result Bool Refusal
or_unheard (Some b) = Ok b
or_unheard None = Err Unheard

-- the path of a flood word with bit 0; a path is asked for by such a word, and by no other
abbrev pub asked : Option Word → Option (List ℕ)
asked None = None
asked (Some w) = cond w.bit None (Some w.path)

-- what taking a path from a word answers
abbrev pub Asks : ℕ → Result Path Refusal → Type 0
Asks x (Ok p) = asked (flood_in x) ≡ Some (sites_of p)
Asks x (Err e) = (asked (flood_in x) ≡ None) × (e ≡ Unlawful)

-- any other word is answered by 5
abbrev pub recall_of : Network → ℕ → ℕ → List ℕ → Option (List ℕ) → Result Bool Refusal
recall_of N v r book None = Err Unlawful
recall_of N v r book (Some p) = or_unheard (noted N v r book p)

-- what recalling answers when r rounds of a phase were heard
abbrev pub recall_reply : Network → ℕ → ℕ → List ℕ → ℕ → Result Bool Refusal
recall_reply N v r book x = recall_of N v r book (asked (flood_in x))
