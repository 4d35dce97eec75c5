use Rattle.plain_walks.proofs.Walking.{stops_mean}
use Rattle.plain_walks.proofs.StopsThere.{stops_there_too, too_many_stops, overflow_stops, fits_go_on}
use Rattle.plain_walks.proofs.Parts.{within_never_passes, standard_is_within}
use Rattle.plain_walks.proofs.stops.Goals as goal

pub returns-clause-mean : goal.returns-clause-mean
returns-clause-mean c = stops_mean

pub returns-clause-there : goal.returns-clause-there
returns-clause-there c = stops_there_too

pub returns-clause-too_many : goal.returns-clause-too_many
returns-clause-too_many c = too_many_stops

pub returns-clause-overflow : goal.returns-clause-overflow
returns-clause-overflow c = overflow_stops

pub returns-clause-fit : goal.returns-clause-fit
returns-clause-fit c = fits_go_on

pub returns-clause-within : goal.returns-clause-within
returns-clause-within c = within_never_passes

pub returns-clause-shown : goal.returns-clause-shown
returns-clause-shown c = standard_is_within
