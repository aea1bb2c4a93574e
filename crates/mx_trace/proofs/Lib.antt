mod CausesNamed
