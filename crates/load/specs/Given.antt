-- What an assignment is given, as the engine hands it on. Assumes nothing.
use Rattle.load.specs.Load.{LoadGiven, load_given}
use Rattle.load.specs.declared.Given.{Given}

abbrev pub given_of : Given → LoadGiven
given_of g = load_given g.metered g.distributor g.loads.now g.imports.now g.generation.now g.areas g.area_parts.now g.contracts.now g.tranches.now
