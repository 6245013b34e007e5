mod Starved
