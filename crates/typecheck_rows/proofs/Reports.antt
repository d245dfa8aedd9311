-- What a check reports, put together from what its parts report: the laws of the sink, for the search.
-- Assumes nothing.
use mathlib.Core.Path.{◌≡◌, ap}
use mathlib.Core.Bool.{Bool, not}
use Rattle.errors.specs.Sink.{also, also-if, meant-if, taken, left, unless, silent, start, turn, whole}

pub not_same : {x y : Bool} → x ≡ y → not x ≡ not y
not_same e = ap not e

pub ruleset reports = (also, also-if, meant-if, taken, left, unless, silent, start, turn, whole, not_same)
