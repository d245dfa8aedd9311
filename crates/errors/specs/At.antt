-- Where an error is, as a place of a diagnostic.
-- Assumes nothing: this is a definition.
use Rattle.rules.specs.declared.Place.{Place}
use Rattle.rules.specs.declared.Place.TheVariants.{R, G, I, F, A, O, D, L}
use Rattle.errors.specs.declared.at.At.{At}
use Rattle.errors.specs.declared.at.At.TheVariants.{Row, FnArg, Item, Field, Arg, Return, Derive, Lifetime}

abbrev pub place : At → Place
place (Row r) = R r
place (FnArg r j) = G r j
place (Item i) = I i
place (Field i j) = F i j
place (Arg i j) = A i j
place (Return i) = O i
place (Derive i j) = D i j
place (Lifetime i j) = L i j
