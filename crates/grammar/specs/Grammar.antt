-- SCOPE, L9, L10 and L13 to L15: the grammar of lists, which token may stand at each of its places.
--     after_address                 behind an address
--     at_place .. at_behind, after  behind any other token, at each place of the grammar
--     may_end                       where a list may end
use Rattle.std.specs.Prelude.{Bool, true, false, not, Option, Some, None}
use Rattle.grammar.specs.declared.Sort.{Sort}
use Rattle.grammar.specs.declared.Sort.TheVariants.{Word, Less, Greater, Comma, Colon, Semicolon}
use Rattle.grammar.specs.declared.Stage.{Stage}
use Rattle.grammar.specs.declared.Stage.TheVariants.{Place, Opened, Phrase, Angle, Closing, Behind}

-- What a token does at each place of the grammar: it goes on at another place, inside a group or not, or is
-- unreadable, `None`. A list place is what stands between two commas.

-- L9: a bare address is a list place, the first of a group too, and one behind `<` has to be closed; behind a whole place a comma
-- must come first. L15: no bare address stands behind words.
unfoldable pub after_address : Stage → Bool → Option (Stage × Bool)
after_address Place inside = Some (Behind, inside)
after_address Opened inside = Some (Behind, inside)
after_address Phrase inside = None
after_address Angle inside = Some (Closing, inside)
after_address Closing inside = None
after_address Behind inside = None

-- L9: here a list place must begin, with a word or `<`. L13: a comma or a semicolon would leave it empty. L14: a group needs its
-- phrase.
abbrev pub at_place : Bool → Sort → Option (Stage × Bool)
at_place inside Word = Some (Phrase, inside)
at_place inside Less = Some (Angle, inside)
at_place inside Greater = None
at_place inside Comma = None
at_place inside Colon = None
at_place inside Semicolon = None

-- L14: behind the colon of a group, which may close at once. L13: a comma would leave an empty place.
abbrev pub at_opened : Bool → Sort → Option (Stage × Bool)
at_opened inside Word = Some (Phrase, inside)
at_opened inside Less = Some (Angle, inside)
at_opened inside Greater = None
at_opened inside Comma = None
at_opened inside Colon = None
at_opened inside Semicolon = Some (Behind, false)

-- L10: behind one or more words another may follow. L9: so may `<`, and the colon of a group. L15: no group stands in a group.
abbrev pub at_phrase : Bool → Sort → Option (Stage × Bool)
at_phrase inside Word = Some (Phrase, inside)
at_phrase inside Less = Some (Angle, inside)
at_phrase inside Greater = None
at_phrase inside Comma = None
at_phrase inside Colon = elim inside [ true ↦ None | false ↦ Some (Opened, true) ]
at_phrase inside Semicolon = None

-- L15: behind `<` only an address may stand, so `<>` and routes are unreadable
abbrev pub at_angle : Bool → Sort → Option (Stage × Bool)
at_angle inside sort = None

-- L9: behind `<` and an address only `>` may stand
abbrev pub at_closing : Bool → Sort → Option (Stage × Bool)
at_closing inside Word = None
at_closing inside Less = None
at_closing inside Greater = Some (Behind, inside)
at_closing inside Comma = None
at_closing inside Colon = None
at_closing inside Semicolon = None

-- L9: behind a whole list place comes a comma. L14: or the semicolon of a group, which is wrong outside of one. L15: no words
-- follow `<a@b>`.
abbrev pub at_behind : Bool → Sort → Option (Stage × Bool)
at_behind inside Word = None
at_behind inside Less = None
at_behind inside Greater = None
at_behind inside Comma = Some (Place, inside)
at_behind inside Colon = None
at_behind inside Semicolon = elim inside [ true ↦ Some (Behind, false) | false ↦ None ]

-- what any token but an address does, by the place of the grammar
unfoldable pub after : Stage → Bool → Sort → Option (Stage × Bool)
after Place inside sort = at_place inside sort
after Opened inside sort = at_opened inside sort
after Phrase inside sort = at_phrase inside sort
after Angle inside sort = at_angle inside sort
after Closing inside sort = at_closing inside sort
after Behind inside sort = at_behind inside sort

-- L9: a list may end behind a whole list place. L13: it may not end behind a comma. L14: nor inside a group, whose semicolon is
-- then missing.
abbrev pub may_end : Stage → Bool → Bool
may_end Place inside = false
may_end Opened inside = false
may_end Phrase inside = false
may_end Angle inside = false
may_end Closing inside = false
may_end Behind inside = not inside
