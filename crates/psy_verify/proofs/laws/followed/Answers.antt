-- What is left of the proof of `laws::followed`.
use Rattle.psy_meaning.specs.CodeWays.{place_of}
use Rattle.psy_verify.proofs.Counts.{going_counts, gone_counts}
use Rattle.psy_verify.proofs.Runs.{asks, begins_there, follows, on_first, still_on}
use Rattle.psy_verify.proofs.laws.followed.Goals as goal

pub returns-clause-ways : goal.returns-clause-ways
returns-clause-ways c unit code agent point home copies view n v few may =
    follows unit code v few agent (place_of code agent point) (begins_there unit code v few agent point home copies view may) n _ (on_first unit code v few agent point home copies view may)

pub returns-clause-safe : goal.returns-clause-safe
returns-clause-safe c unit code agent point home copies view n t v few may runs =
    let on = still_on unit code v few agent (place_of code agent point) (begins_there unit code v few agent point home copies view may) n _ t (on_first unit code v few agent point home copies view may) runs in
    (on.safe, on.shows)

pub returns-clause-asked : goal.returns-clause-asked
returns-clause-asked c unit code agent point home copies view n t i call v few may runs at some =
    let begins = begins_there unit code v few agent point home copies view may in
    let on = still_on unit code v few agent (place_of code agent point) begins n _ t (on_first unit code v few agent point home copies view may) runs in
    asks unit code v few agent (place_of code agent point) begins t on i call at some

pub returns-clause-gone : goal.returns-clause-gone
returns-clause-gone c = gone_counts

pub returns-clause-going : goal.returns-clause-going
returns-clause-going c = going_counts
