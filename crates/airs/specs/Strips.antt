-- What a strip means.
use Rattle.std.specs.Prelude.{List, take}
use Rattle.airs.specs.declared.entry.Entry.{Entry}
use Rattle.airs.specs.declared.strip.Strip.{Strip}
use Rattle.airs.specs.Lanes.{Lanes}
use Rattle.airs.specs.Runs.{run_lanes}

-- the pairs of a strip, in the order in which their words were put
abbrev pub strip_run : Strip → List Entry
strip_run t = take t.len t.run

-- the lanes of a strip: of each site, the words of its pairs
abbrev pub strip_lanes : Strip → Lanes
strip_lanes t = run_lanes (strip_run t)
