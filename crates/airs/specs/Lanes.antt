-- The meaning of an air: six lanes, one a site, each the list of the words put there since the last clearing.
use Rattle.std.specs.Prelude.{ℕ, ◌+◌, cond, List, [], ◌∷◌, ◌++◌, length, Ok, Err, Option, Result, nat_le, slice_index_or, slice_set}
use Rattle.std.specs.List.{slice_get}
use Rattle.sites.specs.declared.refusal.Refusal.{Refusal}
use Rattle.sites.specs.declared.refusal.Refusal.TheVariants.{NoSite, LaneFull}

abbrev pub Lanes : Type 0
Lanes = List (List ℕ)

-- the lane of a site; there is none for a site of 6 or more, so nothing stands in it
abbrev pub lane : Lanes → ℕ → List ℕ
lane ls s = slice_index_or ls s []

-- how many words a site's lane has
abbrev pub count_of : Lanes → ℕ → ℕ
count_of ls s = length (lane ls s)

-- the word at a position of a site's lane, or nothing past its end
abbrev pub word_at : Lanes → ℕ → ℕ → Option ℕ
word_at ls s k = slice_get (lane ls s) k

-- six lanes with no words
abbrev pub silent : Lanes
silent = [] ∷ [] ∷ [] ∷ [] ∷ [] ∷ [] ∷ []

-- the lanes with words appended to one site's lane
abbrev pub added : Lanes → ℕ → List ℕ → Lanes
added ls s ws = slice_set ls s (lane ls s ++ ws)

-- what put answers: 21 for a site of 6 or more, 25 for a full lane, else the lane's new length
abbrev pub put_reply : ℕ → Lanes → ℕ → Result ℕ Refusal
put_reply size ls s = cond (nat_le 6 s) (Err NoSite) (cond (nat_le size (count_of ls s)) (Err LaneFull) (Ok (count_of ls s + 1)))

-- an accepted call changes what it is made on, a refused one leaves it as it was
abbrev pub kept : {X S : Type 0} → Result X Refusal → S → S → S
kept (Ok x) changed st = changed
kept (Err e) changed st = st

-- what put leaves: the word at the end of its site's lane, if it is accepted
abbrev pub put_next : ℕ → Lanes → ℕ → ℕ → Lanes
put_next size ls s w = kept (put_reply size ls s) (added ls s (w ∷ [])) ls
