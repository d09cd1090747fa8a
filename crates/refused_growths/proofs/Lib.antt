mod Rooms
