use Rattle.std.proofs.Common.{◌≡◌, take}
use Rattle.hosts.proofs.books.notebook_of.Given as goal

abbrev pub invariant-loop-place : goal.invariant-loop-place
invariant-loop-place l = take l.place l.book.words ≡ take l.place l.kept
