-- What a test of numbers in the code tells of the same test in a definition.
-- Assumes nothing.
use borrow.Author.Tests.{le-leb, lt-leb, eq-eqb, ne_eqb}

pub ruleset tests = (le-leb, lt-leb, eq-eqb, ne_eqb)
